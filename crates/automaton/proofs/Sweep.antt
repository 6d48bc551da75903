-- The pairs of r&&s, moved column by column and then row by row.
use Rattle.std.proofs.Common.{◌≡◌, ℕ, ◌+◌, ◌*◌, ◌/◌, ◌%◌, ◌<◌, ◌≤◌, Bool, false, ◌&&◌, List, get_or, sym, refl, ap, ◌∙◌, subst, inl, inr, arith}
use lib.Arith.{digits_div, digits_mod}
use Rattle.std.proofs.lemmas.Bool.{cases_eq}
use Rattle.bits.specs.declared.places.Places.{Places}
use Rattle.bits.specs.Member.{member}
use Rattle.psl.specs.Syntax.{Sequence, both}
use Rattle.psl.specs.Letter.{Letter}
use Rattle.psl.specs.Automaton.{State, states, init, step}
use Rattle.psl.specs.Numbered.{number}
use Rattle.psl.specs.OptionalClock.{Clock}
use Rattle.psl.proofs.Number.{number_below, pair_below}
use Rattle.automaton.specs.declared.view.View.{View}
use Rattle.automaton.specs.Moves.{moved}
use Rattle.automaton.specs.Views.{place, column, row, bare, starts_in, MovedBy, Kept, Advanced}
use Rattle.automaton.proofs.PartMoves.{moved_same}
use Rattle.automaton.proofs.Moves.{both_parts}
use Rattle.automaton.proofs.Views.{place_apart, column_place, row_place}

-- views of n states each that share no place
abbrev pub Disjoint : ℕ → (ℕ → View) → ℕ → Type 0
Disjoint n V m = (i j p q : ℕ) → i < m → j < m → p < n → q < n → place (V i) p ≡ place (V j) q → i ≡ j

-- of m views the first i were moved, and nothing else changed
pub record Swept (k : Clock) (r : Sequence) (l : Letter) (V : ℕ → View) (m : ℕ) (enter : ℕ → ℕ → Bool) (before after : List Places) (i : ℕ) : Type 0 where
  pub done : (j : ℕ) → j < i → MovedBy k r l (enter j) (V j) before after
  pub todo : (j : ℕ) → i ≤ j → j < m → (q : State k r) → get_or after (place (V j) (number k r q)) bare ≡ get_or before (place (V j) (number k r q)) bare
  pub rest : (x : ℕ) → ((j p : ℕ) → j < m → p < states k r → x ≡ place (V j) p → ⊥) → get_or after x bare ≡ get_or before x bare

module _ (k : Clock) (r : Sequence) (l : Letter) (V : ℕ → View) (m : ℕ) (enter : ℕ → ℕ → Bool) (before : List Places) where
  pub swept_more : Disjoint (states k r) V m → (S S' : List Places) (i : ℕ) → i < m → Swept k r l V m enter before S i
      → Advanced k r l (enter i) (V i) S S' → Swept k r l V m enter before S' (i + 1)
  swept_more apart S S' i h old (step, kept) = record {
    done = λ j g q x. elim (cases_eq j i) [
      | inl e ↦ subst (λ (o : ℕ). starts_in S' (V o) k r x q ≡ moved k r l (enter o x) (starts_in before (V o) k r x) q) (sym e)
          (step q x ∙ moved_same k r l (enter i x) (enter i x) _ _ q refl (λ p. ap (λ s. member s x) (old.todo i (omega arith) h p)))
      | inr n ↦ ap (λ s. member s x) (other j (omega arith) n q) ∙ old.done j (omega arith) q x
    ];
    todo = λ j g f q. other j f (λ e. omega arith) q ∙ old.todo j (omega arith) f q;
    rest = λ x g. kept x (λ p f e. g i p h f e) ∙ old.rest x g;
  }
    where
      other : (j : ℕ) → j < m → (j ≡ i → ⊥) → (q : State k r) → get_or S' (place (V j) (number k r q)) bare ≡ get_or S (place (V j) (number k r q)) bare
      other j f n q = kept (place (V j) (number k r q)) (λ p g e. n (apart j i (number k r q) p f h (number_below k r q) g e))

-- the two parts of the number of a pair
first_part : (m a b c d : ℕ) → b < m → d < m → a * m + b ≡ c * m + d → a ≡ c
first_part m a b c d h g e = sym (digits_div a h) ∙ ap (λ (x : ℕ). x / m) e ∙ digits_div c g

second_part : (m a b c d : ℕ) → b < m → d < m → a * m + b ≡ c * m + d → b ≡ d
second_part m a b c d h g e = sym (digits_mod a h) ∙ ap (λ (x : ℕ). x % m) e ∙ digits_mod c g

module _ (v : View) (apart : 1 ≤ v.stride) (n m : ℕ) where
  pub columns_apart : Disjoint n (λ j. column v j m) m
  columns_apart i j p q a b c d e =
      second_part m p i q j a b (place_apart v apart (p * m + i) (q * m + j) (sym (column_place v i m p) ∙ e ∙ column_place v j m q))

  pub rows_apart : Disjoint m (λ j. row v j m) n
  rows_apart i j p q a b c d e =
      first_part m i p j q c d (place_apart v apart (i * m + p) (j * m + q) (sym (row_place v i m p) ∙ e ∙ row_place v j m q))

module _ (k : Clock) (r s : Sequence) (l : Letter) (v : View) (enter : ℕ → Bool) (inits : ℕ → ℕ → Bool) (none : ℕ → ℕ → Bool) (S0 S1 S2 : List Places)
    (columns : Swept k r l (λ j. column v j (states k s)) (states k s) none S0 S1 (states k s))
    (rows : Swept k s l (λ j. row v j (states k s)) (states k r) inits S1 S2 (states k r)) where
  column_starts : (S : List Places) (x : ℕ) (q : State k r) (p : State k s) → starts_in S (column v (number k s p) (states k s)) k r x q ≡ starts_in S v k (both r s) x (q, p)
  column_starts S x q p = ap (λ j. member (get_or S j bare) x) (column_place v (number k s p) (states k s) (number k r q))

  row_starts : (S : List Places) (x : ℕ) (q : State k r) (p : State k s) → starts_in S (row v (number k r q) (states k s)) k s x p ≡ starts_in S v k (both r s) x (q, p)
  row_starts S x q p = ap (λ j. member (get_or S j bare) x) (row_place v (number k r q) (states k s) (number k s p))

  both_moves : ((q : State k r) (x : ℕ) → inits (number k r q) x ≡ (enter x && init k r l q)) → ((j x : ℕ) → none j x ≡ false) → MovedBy k (both r s) l enter v S0 S2
  both_moves e f (q, q') x =
      sym (row_starts S2 x q q')
      ∙ rows.done (number k r q) (number_below k r q) q' x
      ∙ moved_same k s l _ _ _ _ q' (e q x)
      (λ p. row_starts S1 x q p ∙ sym (column_starts S1 x q p) ∙ columns.done (number k s p) (number_below k s p) q x
      ∙ moved_same k r l _ _ _ _ q (f (number k s p) x) (λ o. column_starts S0 x o p))
      ∙ sym (both_parts k r s l (starts_in S0 v k (both r s) x) q q' (enter x))

  both_kept : Kept (states k r * states k s) v S0 S2
  both_kept j h =
      rows.rest j (λ q p a b e. h (q * states k s + p) (pair_below (states k r) (states k s) q p a b) (e ∙ row_place v q (states k s) p))
      ∙ columns.rest j (λ p q a b e. h (q * states k s + p) (pair_below (states k r) (states k s) q p b a) (e ∙ column_place v p (states k s) q))

  pub both_advanced : ((q : State k r) (x : ℕ) → inits (number k r q) x ≡ (enter x && init k r l q)) → ((j x : ℕ) → none j x ≡ false) → Advanced k (both r s) l enter v S0 S2
  both_advanced e f = (both_moves e f, both_kept)
