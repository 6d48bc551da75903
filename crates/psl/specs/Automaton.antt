-- The automaton of a sequence under an optional clock; a state stands for "at least one letter was read".
use Rattle.std.specs.Prelude.{ℕ, zero, suc, ◌+◌, ◌*◌, Bool, true, false, ◌&&◌, ◌||◌, T, ◌⊎◌, List, [], ◌∷◌}
use Rattle.std.proofs.Common.{inl, inr}
use Rattle.psl.specs.Syntax.{Condition, negation, Sequence, condition, concat, fusion, either, both, empty, star, sequence_at}
use Rattle.psl.specs.Letter.{Letter, top, satisfies}
use Rattle.psl.specs.OptionalClock.{Clock, free, on, ticks}

-- under a clock a condition waits for the end of its tick, or its tick is over
pub data Leaf : Type 0 where
  waiting over : Leaf

-- the states of a condition: two under a clock, and free of one only that its letter was read
abbrev pub LeafState : Clock → Type 0
LeafState free = Unit {0}
LeafState (on c) = Leaf

-- a match may end in this state of a condition
abbrev pub leaf_final : (k : Clock) → LeafState k → Bool
leaf_final free p = true
leaf_final (on c) waiting = false
leaf_final (on c) over = true

-- some non-empty run of tops completes a match of the condition from this state
abbrev pub leaf_live : (k : Clock) → LeafState k → Bool
leaf_live free p = false
leaf_live (on c) waiting = true
leaf_live (on c) over = false

-- from this state of a condition, a match may end with this letter
abbrev pub leaf_last : (k : Clock) → Condition → Letter → LeafState k → Bool
leaf_last free b l p = false
leaf_last (on c) b l waiting = satisfies l c && satisfies l b
leaf_last (on c) b l over = false

-- from the start of a condition, this letter may lead to the state
abbrev pub leaf_init : (k : Clock) → Condition → Letter → LeafState k → Bool
leaf_init free b l q = satisfies l b
leaf_init (on c) b l waiting = satisfies l (negation c)
leaf_init (on c) b l over = satisfies l c && satisfies l b

-- from the state p of a condition, this letter may lead to the state q
abbrev pub leaf_step : (k : Clock) → Condition → Letter → LeafState k → LeafState k → Bool
leaf_step free b l p q = false
leaf_step (on c) b l waiting q = leaf_init (on c) b l q
leaf_step (on c) b l over q = false

-- some state of a condition has the property
abbrev pub leaf_any : (k : Clock) → (LeafState k → Bool) → Bool
leaf_any free P = P tt
leaf_any (on c) P = P waiting || P over

-- how many states a condition has
abbrev pub leaf_states : Clock → ℕ
leaf_states free = 1
leaf_states (on c) = 2

-- how many states a sequence has: a product for &&, else the sum over its conditions
abbrev pub states : Clock → Sequence → ℕ
states k (condition b) = leaf_states k
states k (concat r s) = states k r + states k s
states k (fusion r s) = states k r + states k s
states k (either r s) = states k r + states k s
states k (both r s) = states k r * states k s
states k empty = 0
states k (star r) = states k r
states k (sequence_at r d) = states (on d) r

-- the states of a sequence
abbrev pub State : Clock → Sequence → Type 0
State k (condition b) = LeafState k
State k (concat r s) = State k r ⊎ State k s
State k (fusion r s) = State k r ⊎ State k s
State k (either r s) = State k r ⊎ State k s
State k (both r s) = State k r × State k s
State k empty = ⊥
State k (star r) = State k r
State k (sequence_at r d) = State (on d) r

-- the sequence matches the empty list
abbrev pub null : Sequence → Bool
null (condition b) = false
null (concat r s) = null r && null s
null (fusion r s) = false
null (either r s) = null r || null s
null (both r s) = null r && null s
null empty = true
null (star r) = true
null (sequence_at r d) = null r

-- a match may end in this state
abbrev pub final : (k : Clock) → (r : Sequence) → State k r → Bool
final k (condition b) p = leaf_final k p
final k (concat r s) (inl p) = final k r p && null s
final k (concat r s) (inr q) = final k s q
final k (fusion r s) (inl p) = false
final k (fusion r s) (inr q) = final k s q
final k (either r s) (inl p) = final k r p
final k (either r s) (inr q) = final k s q
final k (both r s) pq = final k r pq.0 && final k s pq.1
final k empty p = false
final k (star r) p = final k r p
final k (sequence_at r d) p = final (on d) r p

-- the sequence matches this one letter
abbrev pub single : (k : Clock) → (r : Sequence) → Letter → Bool
single k (condition b) l = ticks k l && satisfies l b
single k (concat r s) l = (null r && single k s l) || (single k r l && null s)
single k (fusion r s) l = single k r l && single k s l
single k (either r s) l = single k r l || single k s l
single k (both r s) l = single k r l && single k s l
single k empty l = false
single k (star r) l = single k r l
single k (sequence_at r d) l = single (on d) r l

-- from this state, a match may end with this letter
abbrev pub last : (k : Clock) → (r : Sequence) → Letter → State k r → Bool
last k (condition b) l p = leaf_last k b l p
last k (concat r s) l (inl p) = (final k r p && single k s l) || (last k r l p && null s)
last k (concat r s) l (inr q) = last k s l q
last k (fusion r s) l (inl p) = last k r l p && single k s l
last k (fusion r s) l (inr q) = last k s l q
last k (either r s) l (inl p) = last k r l p
last k (either r s) l (inr q) = last k s l q
last k (both r s) l pq = last k r l pq.0 && last k s l pq.1
last k empty l p = false
last k (star r) l p = (final k r p && single k r l) || last k r l p
last k (sequence_at r d) l p = last (on d) r l p

-- into a state of the first part by g, or, where the flag allows, into one of the second by h
abbrev pub into : {A B : Type 0} → Bool → (A → Bool) → (B → Bool) → A ⊎ B → Bool
into f g h (inl p) = g p
into f g h (inr q) = f && h q

-- only into a state of the first part
abbrev pub on_left : {A B : Type 0} → (A → Bool) → A ⊎ B → Bool
on_left g (inl p) = g p
on_left g (inr q) = false

-- only into a state of the second part
abbrev pub on_right : {A B : Type 0} → (B → Bool) → A ⊎ B → Bool
on_right h (inl p) = false
on_right h (inr q) = h q

-- from the start, this letter may lead to the state
abbrev pub init : (k : Clock) → (r : Sequence) → Letter → State k r → Bool
init k (condition b) l q = leaf_init k b l q
init k (concat r s) l q = into (null r) (init k r l) (init k s l) q
init k (fusion r s) l q = into (single k r l) (init k r l) (init k s l) q
init k (either r s) l q = into true (init k r l) (init k s l) q
init k (both r s) l q = init k r l q.0 && init k s l q.1
init k empty l q = false
init k (star r) l q = init k r l q
init k (sequence_at r d) l q = init (on d) r l q

-- from the state p, this letter may lead to the state q
abbrev pub step : (k : Clock) → (r : Sequence) → Letter → State k r → State k r → Bool
step k (condition b) l p q = leaf_step k b l p q
step k (concat r s) l (inl p) q = into (final k r p) (step k r l p) (init k s l) q
step k (concat r s) l (inr p) q = on_right (step k s l p) q
step k (fusion r s) l (inl p) q = into (last k r l p) (step k r l p) (init k s l) q
step k (fusion r s) l (inr p) q = on_right (step k s l p) q
step k (either r s) l (inl p) q = on_left (step k r l p) q
step k (either r s) l (inr p) q = on_right (step k s l p) q
step k (both r s) l p q = step k r l p.0 q.0 && step k s l p.1 q.1
step k empty l p q = false
step k (star r) l p q = step k r l p q || (final k r p && init k r l q)
step k (sequence_at r d) l p q = step (on d) r l p q

-- some state has the property
abbrev pub any : (k : Clock) → (r : Sequence) → (State k r → Bool) → Bool
any k (condition b) P = leaf_any k P
any k (concat r s) P = any k r (λ p. P (inl p)) || any k s (λ q. P (inr q))
any k (fusion r s) P = any k r (λ p. P (inl p)) || any k s (λ q. P (inr q))
any k (either r s) P = any k r (λ p. P (inl p)) || any k s (λ q. P (inr q))
any k (both r s) P = any k r (λ p. any k s (λ q. P (p, q)))
any k empty P = false
any k (star r) P = any k r P
any k (sequence_at r d) P = any (on d) r P

-- the states after more letters
abbrev pub run : (k : Clock) → (r : Sequence) → (State k r → Bool) → List Letter → State k r → Bool
run k r S [] q = S q
run k r S (l ∷ v) q = run k r (λ q'. any k r (λ p. S p && step k r l p q')) v q

-- the automaton accepts the list
abbrev pub accepts : Clock → Sequence → List Letter → Bool
accepts k r [] = null r
accepts k r (l ∷ v) = any k r (λ q. run k r (init k r l) v q && final k r q)

-- the list leads from this state to one in which a match may end
abbrev pub Completes : (k : Clock) → (r : Sequence) → State k r → List Letter → Type 0
Completes k r p [] = T (final k r p)
Completes k r p (l ∷ v) = (q : State k r) × T (step k r l p q) × Completes k r q v

-- n tops in a row
abbrev pub run_of_tops : ℕ → List Letter
run_of_tops zero = []
run_of_tops (suc n) = top ∷ run_of_tops n

-- some non-empty run of tops matches
abbrev pub live_start : Sequence → Bool
live_start (condition b) = true
live_start (concat r s) = (null r && live_start s) || (live_start r && (null s || live_start s))
live_start (fusion r s) = live_start r && live_start s
live_start (either r s) = live_start r || live_start s
live_start (both r s) = live_start r && live_start s
live_start empty = false
live_start (star r) = live_start r
live_start (sequence_at r d) = live_start r

-- some non-empty run of tops completes a match from this state
abbrev pub live : (k : Clock) → (r : Sequence) → State k r → Bool
live k (condition b) p = leaf_live k p
live k (concat r s) (inl p) = (final k r p && live_start s) || (live k r p && (null s || live_start s))
live k (concat r s) (inr q) = live k s q
live k (fusion r s) (inl p) = live k r p && live_start s
live k (fusion r s) (inr q) = live k s q
live k (either r s) (inl p) = live k r p
live k (either r s) (inr q) = live k s q
live k (both r s) p = live k r p.0 && live k s p.1
live k empty p = false
live k (star r) p = (final k r p && live_start r) || live k r p
live k (sequence_at r d) p = live (on d) r p

-- one or more tops after the list complete a match
abbrev pub extends : Clock → Sequence → List Letter → Bool
extends k r [] = live_start r
extends k r (l ∷ v) = any k r (λ q. run k r (init k r l) v q && live k r q)
