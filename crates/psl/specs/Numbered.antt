-- The automaton over numbers: its states are 0 up to how many there are.
use Rattle.std.specs.Prelude.{ℕ, ◌+◌, ◌-◌, ◌*◌, ◌/◌, ◌%◌, Bool, true, false, cond as if, ◌&&◌, ◌||◌, ◌==◌, nat_lt}
use Rattle.std.proofs.Common.{inl, inr}
use Rattle.psl.specs.Syntax.{Condition, negation, Sequence, condition, concat, fusion, either, both, empty, star, sequence_at}
use Rattle.psl.specs.Letter.{Letter, satisfies}
use Rattle.psl.specs.Automaton.{waiting, over, LeafState, states, State, null, single, live_start}
use Rattle.psl.specs.OptionalClock.{Clock, free, on}

-- by f below n, by g from n on
abbrev pub at_sum : ℕ → (ℕ → Bool) → (ℕ → Bool) → ℕ → Bool
at_sum n f g k = if (nat_lt k n) (f k) (g (k - n))

-- by the two numbers a and b that make up a * m + b
abbrev pub at_pair : ℕ → (ℕ → ℕ → Bool) → ℕ → Bool
at_pair m f k = f (k / m) (k % m)

-- the number of a state of a condition
abbrev pub leaf_number : (c : Clock) → LeafState c → ℕ
leaf_number free p = 0
leaf_number (on c) waiting = 0
leaf_number (on c) over = 1

-- leaf_final by the number
abbrev pub numbered_leaf_final : Clock → ℕ → Bool
numbered_leaf_final free k = true
numbered_leaf_final (on c) k = k == 1

-- leaf_live by the number
abbrev pub numbered_leaf_live : Clock → ℕ → Bool
numbered_leaf_live free k = false
numbered_leaf_live (on c) k = k == 0

-- leaf_last by the number
abbrev pub numbered_leaf_last : Clock → Condition → Letter → ℕ → Bool
numbered_leaf_last free b l k = false
numbered_leaf_last (on c) b l k = k == 0 && (satisfies l c && satisfies l b)

-- leaf_init by the number
abbrev pub numbered_leaf_init : Clock → Condition → Letter → ℕ → Bool
numbered_leaf_init free b l q = satisfies l b
numbered_leaf_init (on c) b l q = if (q == 0) (satisfies l (negation c)) (satisfies l c && satisfies l b)

-- leaf_step by the numbers
abbrev pub numbered_leaf_step : Clock → Condition → Letter → ℕ → ℕ → Bool
numbered_leaf_step free b l p q = false
numbered_leaf_step (on c) b l p q = p == 0 && numbered_leaf_init (on c) b l q

-- the number of a state
abbrev pub number : (c : Clock) → (r : Sequence) → State c r → ℕ
number c (condition b) p = leaf_number c p
number c (concat r s) (inl p) = number c r p
number c (concat r s) (inr q) = states c r + number c s q
number c (fusion r s) (inl p) = number c r p
number c (fusion r s) (inr q) = states c r + number c s q
number c (either r s) (inl p) = number c r p
number c (either r s) (inr q) = states c r + number c s q
number c (both r s) p = number c r p.0 * states c s + number c s p.1
number c empty p = 0
number c (star r) p = number c r p
number c (sequence_at r d) p = number (on d) r p

-- final by the number
abbrev pub numbered_final : Clock → Sequence → ℕ → Bool
numbered_final c (condition b) k = numbered_leaf_final c k
numbered_final c (concat r s) k = at_sum (states c r) (λ p. numbered_final c r p && null s) (numbered_final c s) k
numbered_final c (fusion r s) k = at_sum (states c r) (λ p. false) (numbered_final c s) k
numbered_final c (either r s) k = at_sum (states c r) (numbered_final c r) (numbered_final c s) k
numbered_final c (both r s) k = at_pair (states c s) (λ p q. numbered_final c r p && numbered_final c s q) k
numbered_final c empty k = false
numbered_final c (star r) k = numbered_final c r k
numbered_final c (sequence_at r d) k = numbered_final (on d) r k

-- last by the number
abbrev pub numbered_last : Clock → Sequence → Letter → ℕ → Bool
numbered_last c (condition b) l k = numbered_leaf_last c b l k
numbered_last c (concat r s) l k = at_sum (states c r) (λ p. (numbered_final c r p && single c s l) || (numbered_last c r l p && null s)) (numbered_last c s l) k
numbered_last c (fusion r s) l k = at_sum (states c r) (λ p. numbered_last c r l p && single c s l) (numbered_last c s l) k
numbered_last c (either r s) l k = at_sum (states c r) (numbered_last c r l) (numbered_last c s l) k
numbered_last c (both r s) l k = at_pair (states c s) (λ p q. numbered_last c r l p && numbered_last c s l q) k
numbered_last c empty l k = false
numbered_last c (star r) l k = (numbered_final c r k && single c r l) || numbered_last c r l k
numbered_last c (sequence_at r d) l k = numbered_last (on d) r l k

-- live by the number
abbrev pub numbered_live : Clock → Sequence → ℕ → Bool
numbered_live c (condition b) k = numbered_leaf_live c k
numbered_live c (concat r s) k =
    at_sum (states c r) (λ p. (numbered_final c r p && live_start s) || (numbered_live c r p && (null s || live_start s))) (numbered_live c s) k
numbered_live c (fusion r s) k = at_sum (states c r) (λ p. numbered_live c r p && live_start s) (numbered_live c s) k
numbered_live c (either r s) k = at_sum (states c r) (numbered_live c r) (numbered_live c s) k
numbered_live c (both r s) k = at_pair (states c s) (λ p q. numbered_live c r p && numbered_live c s q) k
numbered_live c empty k = false
numbered_live c (star r) k = (numbered_final c r k && live_start r) || numbered_live c r k
numbered_live c (sequence_at r d) k = numbered_live (on d) r k

-- init by the number
abbrev pub numbered_init : Clock → Sequence → Letter → ℕ → Bool
numbered_init c (condition b) l q = numbered_leaf_init c b l q
numbered_init c (concat r s) l q = at_sum (states c r) (numbered_init c r l) (λ q. null r && numbered_init c s l q) q
numbered_init c (fusion r s) l q = at_sum (states c r) (numbered_init c r l) (λ q. single c r l && numbered_init c s l q) q
numbered_init c (either r s) l q = at_sum (states c r) (numbered_init c r l) (numbered_init c s l) q
numbered_init c (both r s) l k = at_pair (states c s) (λ p q. numbered_init c r l p && numbered_init c s l q) k
numbered_init c empty l q = false
numbered_init c (star r) l q = numbered_init c r l q
numbered_init c (sequence_at r d) l q = numbered_init (on d) r l q

-- step by the numbers
abbrev pub numbered_step : Clock → Sequence → Letter → ℕ → ℕ → Bool
numbered_step c (condition b) l p q = numbered_leaf_step c b l p q
numbered_step c (concat r s) l p q =
    at_sum (states c r) (λ p. at_sum (states c r) (numbered_step c r l p) (λ q. numbered_final c r p && numbered_init c s l q) q)
    (λ p. at_sum (states c r) (λ q. false) (numbered_step c s l p) q) p
numbered_step c (fusion r s) l p q =
    at_sum (states c r) (λ p. at_sum (states c r) (numbered_step c r l p) (λ q. numbered_last c r l p && numbered_init c s l q) q)
    (λ p. at_sum (states c r) (λ q. false) (numbered_step c s l p) q) p
numbered_step c (either r s) l p q =
    at_sum (states c r) (λ p. at_sum (states c r) (numbered_step c r l p) (λ q. false) q) (λ p. at_sum (states c r) (λ q. false) (numbered_step c s l p) q) p
numbered_step c (both r s) l p q = at_pair (states c s) (λ p p'. at_pair (states c s) (λ q q'. numbered_step c r l p q && numbered_step c s l p' q') q) p
numbered_step c empty l p q = false
numbered_step c (star r) l p q = numbered_step c r l p q || (numbered_final c r p && numbered_init c r l q)
numbered_step c (sequence_at r d) l p q = numbered_step (on d) r l p q
