-- What has ended in the states of a sequence, by its parts.
use Rattle.std.proofs.Common.{◌≡◌, ℕ, Bool, true, false, ◌&&◌, ◌||◌, List, get_or, sym, ap, ◌∙◌, ap₂, inl, inr, arith}
use Rattle.std.proofs.Math.Bool.{or_comm}
use Rattle.std.proofs.lemmas.Bool.Decides.{nat_tests}
use Rattle.bits.specs.declared.places.Places.{Places}
use Rattle.bits.specs.Member.{member}
use Rattle.psl.specs.Syntax.{Condition, Sequence, condition, concat, fusion, either, both}
use Rattle.psl.specs.Automaton.{State, states, null, final, any}
use Rattle.psl.specs.Evaluation.{some_below}
use Rattle.psl.specs.Numbered.{number, numbered_final}
use Rattle.psl.specs.OptionalClock.{Clock, free, on}
use Rattle.psl.proofs.Accept.{any_in, any_out}
use Rattle.psl.proofs.Number.{some_any}
use Rattle.psl.proofs.Numbered.{final_numbered}
use Rattle.psl.proofs.Tests.{and_in, and_out, same_test}
use Rattle.automaton.specs.declared.view.View.{View}
use Rattle.automaton.specs.Moves.{ended}
use Rattle.automaton.specs.Views.{place, behind, row, bare, starts_in, EndedIn}
use Rattle.automaton.proofs.Moves.{any_none, ended_none, any_factor, two_of, any_two}
use Rattle.automaton.proofs.PartMoves.{ended_same, behind_starts}
use Rattle.automaton.proofs.Views.{row_place}

pub free_ended : (b : Condition) (v : View) (S : List Places) (p : Places) → p ≡ get_or S (place v 0) bare → EndedIn free (condition b) v S p
free_ended b v S p e x = ap (λ s. member s x) e ∙ same (member (get_or S (place v 0) bare) x)
  where
    same : (a : Bool) → a ≡ (a && true)
    same a = grind (arith, nat_tests)

pub clocked_ended : (c b : Condition) (v : View) (S : List Places) (p : Places) → p ≡ get_or S (place v 1) bare → EndedIn (on c) (condition b) v S p
clocked_ended c b v S p e x = ap (λ s. member s x) e ∙ same (member (get_or S (place v 0) bare) x) (member (get_or S (place v 1) bare) x)
  where
    same : (a b : Bool) → b ≡ ((a && false) || (b && true))
    same a b = grind (arith, nat_tests)

module _ (k : Clock) (r s : Sequence) (v : View) (S : List Places) (p q : Places) (first : EndedIn k r v S p) (second : EndedIn k s (behind v (states k r)) S q) where
  second_ended : (x : ℕ) → member q x ≡ ended k s (λ o. starts_in S v k (concat r s) x (inr o))
  second_ended x = second x ∙ ended_same k s _ _ (behind_starts k r s v S x)

  pub concat_ended : (found : Places) → ((x : ℕ) → member found x ≡ (member q x || (member p x && null s))) → EndedIn k (concat r s) v S found
  concat_ended found is x =
      is x ∙ ap₂ (λ (a b : Bool). a || (b && null s)) (second_ended x) (first x)
      ∙ or_comm (ended k s (λ o. starts_in S v k (concat r s) x (inr o))) (ended k r (starts_in S v k r x) && null s)
      ∙ ap (λ (b : Bool). b || ended k s (λ o. starts_in S v k (concat r s) x (inr o))) (sym (any_factor k r (starts_in S v k r x) (final k r) (null s)))

  pub either_ended : (found : Places) → ((x : ℕ) → member found x ≡ (member p x || member q x)) → EndedIn k (either r s) v S found
  either_ended found is x = is x ∙ ap₂ ◌||◌ (first x) (second_ended x)

pub fusion_ended : (k : Clock) (r s : Sequence) (v : View) (S : List Places) (q : Places) → EndedIn k s (behind v (states k r)) S q → EndedIn k (fusion r s) v S q
fusion_ended k r s v S q second x =
    second x ∙ ended_same k s _ _ (behind_starts k r s v S x)
    ∙ sym (ap (λ (b : Bool). b || ended k s (λ o. starts_in S v k (fusion r s) x (inr o))) (any_none k r (λ o. starts_in S v k (fusion r s) x (inl o))))

-- r&&s row by row
module _ (k : Clock) (r s : Sequence) (v : View) (S : List Places) where
  abbrev row_ended : ℕ → ℕ → Bool
  row_ended x p = ended k s (starts_in S (row v p (states k s)) k s x)

  row_starts : (x : ℕ) (p : State k r) (q : State k s) → starts_in S (row v (number k r p) (states k s)) k s x q ≡ starts_in S v k (both r s) x (p, q)
  row_starts x p q = ap (λ j. member (get_or S j bare) x) (row_place v (number k r p) (states k s) (number k s q))

  both_any : (X : State k r → State k s → Bool) → any k r (λ p. ended k s (X p) && final k r p) ≡ any k r (λ p. any k s (λ q. X p q && (final k r p && final k s q)))
  both_any X = same_test _ _
      (λ t. let (p, e, f) = two_of k r (λ p. ended k s (X p)) (final k r) t in
      let (q, x, g) = two_of k s (X p) (final k s) e in
      any_in k r (λ p. any k s (λ q. X p q && (final k r p && final k s q))) p (any_two k s (X p) (λ q. final k r p && final k s q) q x (and_in (final k r p) (final k s q) f g)))
      (λ t. let (p, e) = any_out k r (λ p. any k s (λ q. X p q && (final k r p && final k s q))) t in
      let (q, x, fg) = two_of k s (X p) (λ q. final k r p && final k s q) e in
      let (f, g) = and_out (final k r p) (final k s q) fg in
      any_two k r (λ p. ended k s (X p)) (final k r) p (any_two k s (X p) (final k s) q x g) f)

  pub both_ended : (found : Places) (n m : ℕ) → n ≡ states k r → m ≡ states k s
      → ((x : ℕ) → member found x ≡ some_below n (λ p. ended k s (starts_in S (row v p m) k s x) && numbered_final k r p)) → EndedIn k (both r s) v S found
  both_ended found n m e f is x =
      is x
      ∙ ap₂ (λ (n m : ℕ). some_below n (λ p. ended k s (starts_in S (row v p m) k s x) && numbered_final k r p)) e f
      ∙ some_any k r (λ p. row_ended x p && numbered_final k r p) (λ p. ended k s (λ q. starts_in S v k (both r s) x (p, q)) && final k r p)
      (λ p. ap₂ ◌&&◌ (ended_same k s _ _ (row_starts x p)) (final_numbered k r p))
      ∙ both_any (λ p q. starts_in S v k (both r s) x (p, q))

-- no state, and no end
pub none_ended : (k : Clock) (r : Sequence) (v : View) (S : List Places) (found : Places) → states k r ≡ 0 → ((x : ℕ) → member found x ≡ false) → EndedIn k r v S found
none_ended k r v S found e is x = is x ∙ sym (ended_none k r (starts_in S v k r x) e)
