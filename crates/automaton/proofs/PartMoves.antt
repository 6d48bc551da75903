-- The starts in the states of a sequence, moved part by part.
use Rattle.std.proofs.Common.{◌≡◌, ℕ, ◌+◌, ◌≤◌, Bool, ◌&&◌, ◌||◌, List, get_or, sym, refl, ap, ◌∙◌, ap₂, inl, inr, arith}
use Rattle.bits.specs.declared.places.Places.{Places}
use Rattle.bits.specs.Member.{member}
use Rattle.psl.specs.Syntax.{Sequence, concat, fusion, either, star}
use Rattle.psl.specs.Letter.{Letter}
use Rattle.psl.specs.Automaton.{State, states, null, final, init, step}
use Rattle.psl.specs.Numbered.{number}
use Rattle.psl.specs.OptionalClock.{Clock}
use Rattle.psl.proofs.Number.{number_below}
use Rattle.automaton.specs.declared.view.View.{View}
use Rattle.automaton.specs.Moves.{moved, ended}
use Rattle.automaton.specs.Views.{place, behind, bare, starts_in, MovedBy, Kept, Advanced}
use Rattle.automaton.proofs.Moves.{any_same, sum_left, either_right, concat_right, fusion_right, star_again}
use Rattle.automaton.proofs.Views.{place_apart, behind_place}

-- from the same states, entered alike
pub moved_same : (k : Clock) (r : Sequence) (l : Letter) (e f : Bool) (S R : State k r → Bool) (q : State k r) → e ≡ f → ((p : State k r) → S p ≡ R p)
    → moved k r l e S q ≡ moved k r l f R q
moved_same k r l e f S R q h g =
    ap₂ ◌||◌ (ap (λ (b : Bool). b && init k r l q) h) (any_same k r _ _ (λ p. ap (λ (b : Bool). b && step k r l p q) (g p)))

pub ended_same : (k : Clock) (r : Sequence) (S R : State k r → Bool) → ((p : State k r) → S p ≡ R p) → ended k r S ≡ ended k r R
ended_same k r S R g = any_same k r _ _ (λ p. ap (λ (b : Bool). b && final k r p) (g p))

-- entered alike
pub enter_same : (k : Clock) (r : Sequence) (l : Letter) (e f : ℕ → Bool) (v : View) (S S' : List Places) → ((x : ℕ) → e x ≡ f x) → Advanced k r l e v S S'
    → Advanced k r l f v S S'
enter_same k r l e f v S S' h (moves, kept) = (λ q x. moves q x ∙ moved_same k r l (e x) (f x) _ _ q (h x) (λ p. refl), kept)

-- no states, no moves
pub none_advanced : (k : Clock) (r : Sequence) (l : Letter) (e : ℕ → Bool) (v : View) (S : List Places) → states k r ≡ 0 → Advanced k r l e v S S
none_advanced k r l e v S h = (λ q x. let b = number_below k r q in absurd (omega arith), λ j g. refl)

-- the states of a second part stand behind those of the first
pub behind_starts : (k : Clock) (r s : Sequence) (v : View) (S : List Places) (x : ℕ) (q : State k s)
    → starts_in S (behind v (states k r)) k s x q ≡ starts_in S v k (concat r s) x (inr q)
behind_starts k r s v S x q = ap (λ j. member (get_or S j bare) x) (behind_place v (states k r) (number k s q))

-- two parts
module _ (k : Clock) (r s : Sequence) (v : View) (apart : 1 ≤ v.stride) where
  -- what moves the first part leaves the second
  second_kept : (S S' : List Places) → Kept (states k r) v S S' → (x : ℕ) (q : State k s) → starts_in S' v k (concat r s) x (inr q) ≡ starts_in S v k (concat r s) x (inr q)
  second_kept S S' kept x q =
      ap (λ p. member p x)
      (kept (place v (states k r + number k s q)) (λ p h e. let same = place_apart v apart (states k r + number k s q) p e in omega arith))

  first_kept : (S S' : List Places) → Kept (states k s) (behind v (states k r)) S S' → (x : ℕ) (q : State k r) → starts_in S' v k r x q ≡ starts_in S v k r x q
  first_kept S S' kept x q =
      ap (λ p. member p x)
      (kept (place v (number k r q))
      (λ p h e. let same = place_apart v apart (number k r q) (states k r + p) (e ∙ behind_place v (states k r) p) in let below = number_below k r q in omega arith))

  kept_sum : (S0 S1 S2 : List Places) → Kept (states k r) v S0 S1 → Kept (states k s) (behind v (states k r)) S1 S2 → Kept (states k r + states k s) v S0 S2
  kept_sum S0 S1 S2 one two j h =
      two j (λ p g e. h (states k r + p) (omega arith) (e ∙ behind_place v (states k r) p)) ∙ one j (λ p g e. h p (omega arith) e)

  module _ (l : Letter) (enter second : ℕ → Bool) (S0 S1 S2 : List Places) (one : Advanced k r l enter v S0 S1) (two : Advanced k s l second (behind v (states k r)) S1 S2) where
    first_moved : (q : State k r) (x : ℕ) → starts_in S2 v k (concat r s) x (inl q) ≡ moved k r l (enter x) (λ p. starts_in S0 v k (concat r s) x (inl p)) q
    first_moved q x = first_kept S1 S2 two.1 x q ∙ one.0 q x

    second_moved : (q : State k s) (x : ℕ) → starts_in S2 v k (concat r s) x (inr q) ≡ moved k s l (second x) (λ p. starts_in S0 v k (concat r s) x (inr p)) q
    second_moved q x =
        sym (behind_starts k r s v S2 x q) ∙ two.0 q x
        ∙ moved_same k s l (second x) (second x) _ _ q refl (λ p. behind_starts k r s v S1 x p ∙ second_kept S0 S1 one.1 x p)

    concat_moves : ((x : ℕ) → second x ≡ ((enter x && null r) || ended k r (starts_in S0 v k r x))) → MovedBy k (concat r s) l enter v S0 S2
    concat_moves e (inl q) x = first_moved q x ∙ sym (sum_left k r s l (enter x) (starts_in S0 v k (concat r s) x) q)
    concat_moves e (inr q) x =
        second_moved q x ∙ moved_same k s l (second x) _ _ _ q (e x) (λ p. refl) ∙ sym (concat_right k r s l (enter x) (starts_in S0 v k (concat r s) x) q)

    fusion_moves : ((x : ℕ) → second x ≡ ended k r (starts_in S1 v k r x)) → MovedBy k (fusion r s) l enter v S0 S2
    fusion_moves e (inl q) x = first_moved q x ∙ sym (sum_left k r s l (enter x) (starts_in S0 v k (concat r s) x) q)
    fusion_moves e (inr q) x =
        second_moved q x ∙ moved_same k s l (second x) _ _ _ q (e x ∙ ended_same k r _ _ (λ p. one.0 p x)) (λ p. refl)
        ∙ sym (fusion_right k r s l (enter x) (starts_in S0 v k (concat r s) x) q)

    either_moves : ((x : ℕ) → second x ≡ enter x) → MovedBy k (either r s) l enter v S0 S2
    either_moves e (inl q) x = first_moved q x ∙ sym (sum_left k r s l (enter x) (starts_in S0 v k (concat r s) x) q)
    either_moves e (inr q) x =
        second_moved q x ∙ moved_same k s l (second x) _ _ _ q (e x) (λ p. refl) ∙ sym (either_right k r s l (enter x) (starts_in S0 v k (concat r s) x) q)

    pub concat_advanced : ((x : ℕ) → second x ≡ ((enter x && null r) || ended k r (starts_in S0 v k r x))) → Advanced k (concat r s) l enter v S0 S2
    concat_advanced e = (concat_moves e, kept_sum S0 S1 S2 one.1 two.1)

    pub fusion_advanced : ((x : ℕ) → second x ≡ ended k r (starts_in S1 v k r x)) → Advanced k (fusion r s) l enter v S0 S2
    fusion_advanced e = (fusion_moves e, kept_sum S0 S1 S2 one.1 two.1)

    pub either_advanced : ((x : ℕ) → second x ≡ enter x) → Advanced k (either r s) l enter v S0 S2
    either_advanced e = (either_moves e, kept_sum S0 S1 S2 one.1 two.1)

-- r[*]
pub star_advanced : (k : Clock) (r : Sequence) (l : Letter) (enter again : ℕ → Bool) (v : View) (S0 S1 : List Places)
    → ((x : ℕ) → again x ≡ (enter x || ended k r (starts_in S0 v k r x))) → Advanced k r l again v S0 S1 → Advanced k (star r) l enter v S0 S1
star_advanced k r l enter again v S0 S1 e (moves, kept) =
    (λ q x. moves q x ∙ moved_same k r l (again x) _ _ _ q (e x) (λ p. refl) ∙ sym (star_again k r l (enter x) (starts_in S0 v k r x) q), kept)
