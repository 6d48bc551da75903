-- The automaton over numbers is the automaton.
use Rattle.std.proofs.Common.{◌≡◌, ℕ, ◌+◌, ◌-◌, ◌*◌, ◌<◌, Bool, true, false, cond as if, ◌&&◌, ◌||◌, T, ltb, ◌⊎◌, refl, ap, ◌∙◌, ap₂, inl, inr, arith, ltb→lt, lt→ltb}
use lib.Arith.{digits_div, digits_mod}
use Rattle.psl.specs.Syntax.{Condition, Sequence, condition, concat, fusion, either, both, empty, star, sequence_at}
use Rattle.psl.specs.Letter.{Letter}
use Rattle.psl.specs.Automaton.{waiting, over, LeafState, leaf_final, leaf_live, leaf_last, leaf_init, leaf_step, states, State, null, final}
use Rattle.psl.specs.Automaton.{single, last, init, step, live_start, live}
use Rattle.psl.specs.Numbered.{at_sum, at_pair, leaf_number, numbered_leaf_final, numbered_leaf_live, numbered_leaf_last, numbered_leaf_init}
use Rattle.psl.specs.Numbered.{numbered_leaf_step, number, numbered_final, numbered_last, numbered_live, numbered_init, numbered_step}
use Rattle.psl.specs.OptionalClock.{Clock, free, on}
use Rattle.psl.proofs.Number.{number_below}

if_true : (b : Bool) (x y : Bool) → T b → if b x y ≡ x
if_true true x y t = refl
if_true false x y t = absurd t

if_false : (b : Bool) (x y : Bool) → (T b → ⊥) → if b x y ≡ y
if_false true x y t = absurd (t tt)
if_false false x y t = refl

pub sum_left : (n : ℕ) (f g : ℕ → Bool) (k : ℕ) → k < n → at_sum n f g k ≡ f k
sum_left n f g k h = if_true (ltb k n) (f k) (g (k - n)) (lt→ltb k n h)

pub sum_right : (n : ℕ) (f g : ℕ → Bool) (k : ℕ) → at_sum n f g (n + k) ≡ g k
sum_right n f g k =
    let e : (n + k) - n ≡ k = omega arith in
    if_false (ltb (n + k) n) (f (n + k)) (g ((n + k) - n)) (λ t. let h = ltb→lt (n + k) n t in omega arith) ∙ ap g e

pub pair_at : (m : ℕ) (f : ℕ → ℕ → Bool) (a b : ℕ) → b < m → at_pair m f (a * m + b) ≡ f a b
pair_at m f a b h = ap₂ f (digits_div a h) (digits_mod a h)

-- by the parts of a sum of states
sum_numbered : (c : Clock) (r s : Sequence) (f g : ℕ → Bool) (H : State c r ⊎ State c s → Bool)
    → ((p : State c r) → f (number c r p) ≡ H (inl p)) → ((q : State c s) → g (number c s q) ≡ H (inr q))
    → (p : State c r ⊎ State c s) → at_sum (states c r) f g (number c (concat r s) p) ≡ H p
sum_numbered c r s f g H a b (inl p) = sum_left (states c r) f g (number c r p) (number_below c r p) ∙ a p
sum_numbered c r s f g H a b (inr q) = sum_right (states c r) f g (number c s q) ∙ b q

-- conditions
leaf_final_numbered : (c : Clock) (p : LeafState c) → numbered_leaf_final c (leaf_number c p) ≡ leaf_final c p
leaf_final_numbered free p = refl
leaf_final_numbered (on c) waiting = refl
leaf_final_numbered (on c) over = refl

leaf_live_numbered : (c : Clock) (p : LeafState c) → numbered_leaf_live c (leaf_number c p) ≡ leaf_live c p
leaf_live_numbered free p = refl
leaf_live_numbered (on c) waiting = refl
leaf_live_numbered (on c) over = refl

leaf_last_numbered : (c : Clock) (b : Condition) (l : Letter) (p : LeafState c) → numbered_leaf_last c b l (leaf_number c p) ≡ leaf_last c b l p
leaf_last_numbered free b l p = refl
leaf_last_numbered (on c) b l waiting = refl
leaf_last_numbered (on c) b l over = refl

leaf_init_numbered : (c : Clock) (b : Condition) (l : Letter) (p : LeafState c) → numbered_leaf_init c b l (leaf_number c p) ≡ leaf_init c b l p
leaf_init_numbered free b l p = refl
leaf_init_numbered (on c) b l waiting = refl
leaf_init_numbered (on c) b l over = refl

leaf_step_numbered : (c : Clock) (b : Condition) (l : Letter) (p q : LeafState c) → numbered_leaf_step c b l (leaf_number c p)
    (leaf_number c q) ≡ leaf_step c b l p q
leaf_step_numbered free b l p q = refl
leaf_step_numbered (on c) b l waiting q = leaf_init_numbered (on c) b l q
leaf_step_numbered (on c) b l over q = refl

pub final_numbered : (c : Clock) (r : Sequence) (p : State c r) → numbered_final c r (number c r p) ≡ final c r p
final_numbered c (condition b) p = leaf_final_numbered c p
final_numbered c (concat r s) p =
    sum_numbered c r s (λ p. numbered_final c r p && null s) (numbered_final c s) (final c (concat r s)) (λ p. ap (λ (x : Bool). x && null s) (final_numbered c r p)) (final_numbered c s) p
final_numbered c (fusion r s) p =
    sum_numbered c r s (λ p. false) (numbered_final c s) (final c (fusion r s)) (λ p. refl) (final_numbered c s) p
final_numbered c (either r s) p =
    sum_numbered c r s (numbered_final c r) (numbered_final c s) (final c (either r s)) (final_numbered c r) (final_numbered c s) p
final_numbered c (both r s) p =
    pair_at (states c s) (λ p q. numbered_final c r p && numbered_final c s q) (number c r p.0) (number c s p.1) (number_below c s p.1)
    ∙ ap₂ ◌&&◌ (final_numbered c r p.0) (final_numbered c s p.1)
final_numbered c empty p = absurd p
final_numbered c (star r) p = final_numbered c r p
final_numbered c (sequence_at r d) p = final_numbered (on d) r p

pub last_numbered : (c : Clock) (r : Sequence) (l : Letter) (p : State c r) → numbered_last c r l (number c r p) ≡ last c r l p
last_numbered c (condition b) l p = leaf_last_numbered c b l p
last_numbered c (concat r s) l p =
    sum_numbered c r s (λ p. (numbered_final c r p && single c s l) || (numbered_last c r l p && null s)) (numbered_last c s l) (last c (concat r s) l)
    (λ p. ap₂ (λ (x y : Bool). (x && single c s l) || (y && null s)) (final_numbered c r p) (last_numbered c r l p)) (last_numbered c s l) p
last_numbered c (fusion r s) l p =
    sum_numbered c r s (λ p. numbered_last c r l p && single c s l) (numbered_last c s l) (last c (fusion r s) l)
    (λ p. ap (λ (x : Bool). x && single c s l) (last_numbered c r l p)) (last_numbered c s l) p
last_numbered c (either r s) l p =
    sum_numbered c r s (numbered_last c r l) (numbered_last c s l) (last c (either r s) l)
    (last_numbered c r l) (last_numbered c s l) p
last_numbered c (both r s) l p =
    pair_at (states c s) (λ p q. numbered_last c r l p && numbered_last c s l q) (number c r p.0) (number c s p.1) (number_below c s p.1)
    ∙ ap₂ ◌&&◌ (last_numbered c r l p.0) (last_numbered c s l p.1)
last_numbered c empty l p = absurd p
last_numbered c (star r) l p = ap₂ (λ (x y : Bool). (x && single c r l) || y) (final_numbered c r p) (last_numbered c r l p)
last_numbered c (sequence_at r d) l p = last_numbered (on d) r l p

pub live_numbered : (c : Clock) (r : Sequence) (p : State c r) → numbered_live c r (number c r p) ≡ live c r p
live_numbered c (condition b) p = leaf_live_numbered c p
live_numbered c (concat r s) p =
    sum_numbered c r s (λ p. (numbered_final c r p && live_start s) || (numbered_live c r p && (null s || live_start s))) (numbered_live c s) (live c (concat r s))
    (λ p. ap₂ (λ (x y : Bool). (x && live_start s) || (y && (null s || live_start s))) (final_numbered c r p) (live_numbered c r p)) (live_numbered c s) p
live_numbered c (fusion r s) p =
    sum_numbered c r s (λ p. numbered_live c r p && live_start s) (numbered_live c s) (live c (fusion r s))
    (λ p. ap (λ (x : Bool). x && live_start s) (live_numbered c r p)) (live_numbered c s) p
live_numbered c (either r s) p =
    sum_numbered c r s (numbered_live c r) (numbered_live c s) (live c (either r s))
    (live_numbered c r) (live_numbered c s) p
live_numbered c (both r s) p =
    pair_at (states c s) (λ p q. numbered_live c r p && numbered_live c s q) (number c r p.0) (number c s p.1) (number_below c s p.1)
    ∙ ap₂ ◌&&◌ (live_numbered c r p.0) (live_numbered c s p.1)
live_numbered c empty p = absurd p
live_numbered c (star r) p = ap₂ (λ (x y : Bool). (x && live_start r) || y) (final_numbered c r p) (live_numbered c r p)
live_numbered c (sequence_at r d) p = live_numbered (on d) r p

pub init_numbered : (c : Clock) (r : Sequence) (l : Letter) (q : State c r) → numbered_init c r l (number c r q) ≡ init c r l q
init_numbered c (condition b) l q = leaf_init_numbered c b l q
init_numbered c (concat r s) l q =
    sum_numbered c r s (numbered_init c r l) (λ q. null r && numbered_init c s l q) (init c (concat r s) l) (init_numbered c r l) (λ q. ap (λ (x : Bool). null r && x) (init_numbered c s l q)) q
init_numbered c (fusion r s) l q =
    sum_numbered c r s (numbered_init c r l) (λ q. single c r l && numbered_init c s l q) (init c (fusion r s) l) (init_numbered c r l) (λ q. ap (λ (x : Bool). single c r l && x) (init_numbered c s l q)) q
init_numbered c (either r s) l q =
    sum_numbered c r s (numbered_init c r l) (numbered_init c s l) (init c (either r s) l) (init_numbered c r l) (init_numbered c s l) q
init_numbered c (both r s) l p =
    pair_at (states c s) (λ p q. numbered_init c r l p && numbered_init c s l q) (number c r p.0) (number c s p.1) (number_below c s p.1)
    ∙ ap₂ ◌&&◌ (init_numbered c r l p.0) (init_numbered c s l p.1)
init_numbered c empty l q = absurd q
init_numbered c (star r) l q = init_numbered c r l q
init_numbered c (sequence_at r d) l q = init_numbered (on d) r l q

pub step_numbered : (c : Clock) (r : Sequence) (l : Letter) (p q : State c r) → numbered_step c r l (number c r p) (number c r q) ≡ step c r l p q
step_numbered c (condition b) l p q = leaf_step_numbered c b l p q
step_numbered c (concat r s) l p q =
    sum_numbered c r s
    (λ p. at_sum (states c r) (numbered_step c r l p) (λ q. numbered_final c r p && numbered_init c s l q) (number c (concat r s) q))
    (λ p. at_sum (states c r) (λ q. false) (numbered_step c s l p) (number c (concat r s) q))
    (λ p. step c (concat r s) l p q)
    (λ p. sum_numbered c r s (numbered_step c r l (number c r p)) (λ q. numbered_final c r (number c r p) && numbered_init c s l q) (step c (concat r s) l (inl p)) (step_numbered c r l p) (λ q. ap₂ ◌&&◌ (final_numbered c r p) (init_numbered c s l q)) q)
    (λ p. sum_numbered c r s (λ q. false) (numbered_step c s l (number c s p)) (step c (concat r s) l (inr p)) (λ q. refl) (step_numbered c s l p) q)
    p
step_numbered c (fusion r s) l p q =
    sum_numbered c r s
    (λ p. at_sum (states c r) (numbered_step c r l p) (λ q. numbered_last c r l p && numbered_init c s l q) (number c (fusion r s) q))
    (λ p. at_sum (states c r) (λ q. false) (numbered_step c s l p) (number c (fusion r s) q))
    (λ p. step c (fusion r s) l p q)
    (λ p. sum_numbered c r s (numbered_step c r l (number c r p)) (λ q. numbered_last c r l (number c r p) && numbered_init c s l q) (step c (fusion r s) l (inl p)) (step_numbered c r l p) (λ q. ap₂ ◌&&◌ (last_numbered c r l p) (init_numbered c s l q)) q)
    (λ p. sum_numbered c r s (λ q. false) (numbered_step c s l (number c s p)) (step c (fusion r s) l (inr p)) (λ q. refl) (step_numbered c s l p) q)
    p
step_numbered c (either r s) l p q =
    sum_numbered c r s
    (λ p. at_sum (states c r) (numbered_step c r l p) (λ q. false) (number c (either r s) q))
    (λ p. at_sum (states c r) (λ q. false) (numbered_step c s l p) (number c (either r s) q))
    (λ p. step c (either r s) l p q)
    (λ p. sum_numbered c r s (numbered_step c r l (number c r p)) (λ q. false) (step c (either r s) l (inl p)) (step_numbered c r l p) (λ q. refl) q)
    (λ p. sum_numbered c r s (λ q. false) (numbered_step c s l (number c s p)) (step c (either r s) l (inr p)) (λ q. refl) (step_numbered c s l p) q)
    p
step_numbered c (both r s) l p q =
    pair_at (states c s) (λ a a'. at_pair (states c s) (λ b b'. numbered_step c r l a b && numbered_step c s l a' b') (number c (both r s) q))
    (number c r p.0) (number c s p.1) (number_below c s p.1)
    ∙ pair_at (states c s) (λ b b'. numbered_step c r l (number c r p.0) b && numbered_step c s l (number c s p.1) b') (number c r q.0)
    (number c s q.1) (number_below c s q.1)
    ∙ ap₂ ◌&&◌ (step_numbered c r l p.0 q.0) (step_numbered c s l p.1 q.1)
step_numbered c empty l p q = absurd p
step_numbered c (star r) l p q =
    ap₂ ◌||◌ (step_numbered c r l p q) (ap₂ ◌&&◌ (final_numbered c r p) (init_numbered c r l q))
step_numbered c (sequence_at r d) l p q = step_numbered (on d) r l p q

-- under a clock, which clock it is does not count for the size, the final and the live states
pub states_on : (c d : Condition) (r : Sequence) → states (on c) r ≡ states (on d) r
states_on c d (condition b) = refl
states_on c d (concat r s) = ap₂ ◌+◌ (states_on c d r) (states_on c d s)
states_on c d (fusion r s) = ap₂ ◌+◌ (states_on c d r) (states_on c d s)
states_on c d (either r s) = ap₂ ◌+◌ (states_on c d r) (states_on c d s)
states_on c d (both r s) = ap₂ ◌*◌ (states_on c d r) (states_on c d s)
states_on c d empty = refl
states_on c d (star r) = states_on c d r
states_on c d (sequence_at r e) = refl

pub final_on : (c d : Condition) (r : Sequence) (k : ℕ) → numbered_final (on c) r k ≡ numbered_final (on d) r k
final_on c d (condition b) k = refl
final_on c d (concat r s) k = simp (states_on c d r, final_on c d r, final_on c d s)
final_on c d (fusion r s) k = simp (states_on c d r, final_on c d s)
final_on c d (either r s) k = simp (states_on c d r, final_on c d r, final_on c d s)
final_on c d (both r s) k = simp (states_on c d s, final_on c d r, final_on c d s)
final_on c d empty k = refl
final_on c d (star r) k = final_on c d r k
final_on c d (sequence_at r e) k = refl
