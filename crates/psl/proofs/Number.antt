-- The numbers of the states: each below their count, no two alike, and none left out.
use Rattle.std.proofs.Common.{◌≡◌, ℕ, zero, suc, ◌+◌, ◌-◌, ◌*◌, ◌/◌, ◌%◌, ◌<◌, ◌≤◌, Bool, T, ◌⊎◌, sym, refl, ap, ◌∙◌, subst, ap₂, inl, inr, mul-le-mul_right, mod-lt, suc-mul, div-lt_iff_lt-mul, eq-zero-or-pos, mul-zero, div-add-mod', arith}
use lib.Arith.{digits_div, digits_mod}
use Rattle.psl.specs.Syntax.{Sequence, condition, concat, fusion, either, both, empty, star, sequence_at}
use Rattle.psl.specs.Automaton.{waiting, over, LeafState, leaf_states, states, State, any}
use Rattle.psl.specs.Evaluation.{some_below}
use Rattle.psl.specs.Numbered.{leaf_number, number}
use Rattle.psl.specs.OptionalClock.{Clock, free, on}
use Rattle.psl.proofs.Accept.{any_in, any_out}
use Rattle.psl.proofs.Tests.{or_left, or_right, or_out, same_test, below_or}

pub pair_below : (n m a b : ℕ) → a < n → b < m → a * m + b < n * m
pair_below n m a b h k =
    let e : suc a * m ≤ n * m = mul-le-mul_right m h in
    omega (arith, e, suc-mul a m)

-- some number below the size, and some state
leaf_number_below : (c : Clock) (p : LeafState c) → leaf_number c p < leaf_states c
leaf_number_below free p = omega arith
leaf_number_below (on c) waiting = omega arith
leaf_number_below (on c) over = omega arith

pub number_below : (c : Clock) (r : Sequence) (p : State c r) → number c r p < states c r
number_below c (condition b) p = leaf_number_below c p
number_below c (concat r s) (inl p) = omega (arith, number_below c r p)
number_below c (concat r s) (inr q) = omega (arith, number_below c s q)
number_below c (fusion r s) (inl p) = omega (arith, number_below c r p)
number_below c (fusion r s) (inr q) = omega (arith, number_below c s q)
number_below c (either r s) (inl p) = omega (arith, number_below c r p)
number_below c (either r s) (inr q) = omega (arith, number_below c s q)
number_below c (both r s) p = pair_below (states c r) (states c s) (number c r p.0) (number c s p.1) (number_below c r p.0) (number_below c s p.1)
number_below c empty p = absurd p
number_below c (star r) p = number_below c r p
number_below c (sequence_at r d) p = number_below (on d) r p

leaf_numbered_at : (c : Clock) (k : ℕ) → k < leaf_states c → (p : LeafState c) × (leaf_number c p ≡ k)
leaf_numbered_at free zero h = (tt, refl)
leaf_numbered_at free (suc k) h = absurd (omega arith)
leaf_numbered_at (on c) zero h = (waiting, refl)
leaf_numbered_at (on c) (suc zero) h = (over, refl)
leaf_numbered_at (on c) (suc (suc k)) h = absurd (omega arith)

-- some number below n
pub some_in : (n : ℕ) (P : ℕ → Bool) (k : ℕ) → k < n → T (P k) → T (some_below n P)
some_in zero P k h x = absurd (omega arith)
some_in (suc n) P k h x =
    elim (below_or k n) [
      | inl i ↦ or_left (some_below n P) (P n) (some_in n P k i x)
      | inr i ↦ let e : k ≡ n = omega arith in or_right (some_below n P) (P n) (subst (λ (j : ℕ). T (P j)) e x)
    ]

pub some_out : (n : ℕ) (P : ℕ → Bool) → T (some_below n P) → (k : ℕ) × (k < n) × T (P k)
some_out zero P x = absurd x
some_out (suc n) P x = go (some_out n P) (or_out (some_below n P) (P n) x)
  where
    go : (T (some_below n P) → (k : ℕ) × (k < n) × T (P k)) → T (some_below n P) ⊎ T (P n) → (k : ℕ) × (k < suc n) × T (P k)
    go f (inl y) = let z = f y in (z.0, omega (arith, z.1), z.2)
    go f (inr y) = (n, omega arith, y)

-- each number below the count is the number of a state
sum_state : (c : Clock) (r s : Sequence) (k : ℕ) → k < states c r + states c s
    → ((k : ℕ) → k < states c r → (p : State c r) × (number c r p ≡ k)) → ((k : ℕ) → k < states c s → (q : State c s) × (number c s q ≡ k))
    → (p : State c r ⊎ State c s) × (number c (concat r s) p ≡ k)
sum_state c r s k h f g = elim (below_or k (states c r)) [
  | inl i ↦ let z = f k i in (inl z.0, z.1)
  | inr i ↦ let z = g (k - states c r) (omega arith) in (inr z.0, omega (arith, z.1))
]

pair_state : (c : Clock) (r s : Sequence) (k : ℕ) → k < states c r * states c s
    → ((k : ℕ) → k < states c r → (p : State c r) × (number c r p ≡ k)) → ((k : ℕ) → k < states c s → (q : State c s) × (number c s q ≡ k))
    → (p : State c r × State c s) × (number c (both r s) p ≡ k)
pair_state c r s k h f g = go (eq-zero-or-pos (states c s))
  where
    go : (states c s ≡ 0) ⊎ (0 < states c s) → (p : State c r × State c s) × (number c (both r s) p ≡ k)
    go (inl e) =
        let z : states c r * states c s ≡ 0 = ap (λ (m : ℕ). states c r * m) e ∙ mul-zero (states c r) in
        absurd (omega arith)
    go (inr o) =
        let x = f (k / states c s) ((div-lt_iff_lt-mul o).1 h) in
        let y = g (k % states c s) (mod-lt k o) in
        ((x.0, y.0), ap₂ (λ (a b : ℕ). a * states c s + b) x.1 y.1 ∙ div-add-mod' k (states c s))

pub state_at : (c : Clock) (r : Sequence) (k : ℕ) → k < states c r → (p : State c r) × (number c r p ≡ k)
state_at c (condition b) k h = leaf_numbered_at c k h
state_at c (concat r s) k h = sum_state c r s k h (state_at c r) (state_at c s)
state_at c (fusion r s) k h = sum_state c r s k h (state_at c r) (state_at c s)
state_at c (either r s) k h = sum_state c r s k h (state_at c r) (state_at c s)
state_at c (both r s) k h = pair_state c r s k h (state_at c r) (state_at c s)
state_at c empty k h = absurd (omega arith)
state_at c (star r) k h = state_at c r k h
state_at c (sequence_at r d) k h = state_at (on d) r k h

-- two states have two numbers
leaf_apart : (c : Clock) (p q : LeafState c) → leaf_number c p ≡ leaf_number c q → p ≡ q
leaf_apart free p q e = refl
leaf_apart (on c) waiting waiting e = refl
leaf_apart (on c) waiting over e = absurd (omega arith)
leaf_apart (on c) over waiting e = absurd (omega arith)
leaf_apart (on c) over over e = refl

sum_apart : (c : Clock) (r s : Sequence) → ((p q : State c r) → number c r p ≡ number c r q → p ≡ q) → ((p q : State c s) → number c s p ≡ number c s q → p ≡ q)
    → (p q : State c r ⊎ State c s) → number c (concat r s) p ≡ number c (concat r s) q → p ≡ q
sum_apart c r s f g (inl p) (inl q) e = ap inl (f p q e)
sum_apart c r s f g (inl p) (inr q) e = absurd (omega (arith, number_below c r p))
sum_apart c r s f g (inr p) (inl q) e = absurd (omega (arith, number_below c r q))
sum_apart c r s f g (inr p) (inr q) e = ap inr (g p q (omega arith))

digits_apart : (m a b a' b' : ℕ) → b < m → b' < m → a * m + b ≡ a' * m + b' → (a ≡ a') × (b ≡ b')
digits_apart m a b a' b' h h' e =
    (sym (digits_div a h) ∙ ap (λ (n : ℕ). n / m) e ∙ digits_div a' h', sym (digits_mod a h) ∙ ap (λ (n : ℕ). n % m) e ∙ digits_mod a' h')

pub number_apart : (c : Clock) (r : Sequence) (p q : State c r) → number c r p ≡ number c r q → p ≡ q
number_apart c (condition b) p q e = leaf_apart c p q e
number_apart c (concat r s) p q e = sum_apart c r s (number_apart c r) (number_apart c s) p q e
number_apart c (fusion r s) p q e = sum_apart c r s (number_apart c r) (number_apart c s) p q e
number_apart c (either r s) p q e = sum_apart c r s (number_apart c r) (number_apart c s) p q e
number_apart c (both r s) (p, p') (q, q') e =
    let (a, b) = digits_apart (states c s) (number c r p) (number c s p') (number c r q) (number c s q') (number_below c s p') (number_below c s q') e in
    ap₂ (λ (x : State c r) (y : State c s). (x, y)) (number_apart c r p q a) (number_apart c s p' q' b)
number_apart c empty p q e = absurd p
number_apart c (star r) p q e = number_apart c r p q e
number_apart c (sequence_at r d) p q e = number_apart (on d) r p q e

pub some_any : (c : Clock) (r : Sequence) (P : ℕ → Bool) (S : State c r → Bool) → ((p : State c r) → P (number c r p) ≡ S p) → some_below (states c r) P ≡ any c r S
some_any c r P S e = same_test (some_below (states c r) P) (any c r S) there back
  where
    there : T (some_below (states c r) P) → T (any c r S)
    there t =
        let x = some_out (states c r) P t in
        let z = state_at c r x.0 x.1 in
        any_in c r S z.0 (subst T (e z.0) (subst (λ (k : ℕ). T (P k)) (sym z.1) x.2))

    back : T (any c r S) → T (some_below (states c r) P)
    back t =
        let x = any_out c r S t in
        some_in (states c r) P (number c r x.0) (number_below c r x.0) (subst T (sym (e x.0)) x.1)
