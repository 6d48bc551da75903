-- Sums over the states of an automaton, and how many states are in a set.
use Rattle.std.proofs.Common.{ℕ, ◌+◌, ◌*◌, ◌<◌, ◌≤◌, Bool, true, false, T, inl, inr, mul_assoc, add-mul, mul-one, arith}
use Rattle.psl.specs.Syntax.{Sequence, condition, concat, fusion, either, both, empty, star, sequence_at}
use Rattle.psl.specs.Automaton.{waiting, over, LeafState, leaf_states, states, State}
use Rattle.psl.specs.OptionalClock.{Clock, free, on}

-- over the states of a condition
abbrev leaf_total : (k : Clock) → (LeafState k → ℕ) → ℕ
leaf_total free F = F tt
leaf_total (on c) F = F waiting + F over

-- over all states
abbrev pub total : (k : Clock) → (r : Sequence) → (State k r → ℕ) → ℕ
total k (condition b) F = leaf_total k F
total k (concat r s) F = total k r (λ p. F (inl p)) + total k s (λ q. F (inr q))
total k (fusion r s) F = total k r (λ p. F (inl p)) + total k s (λ q. F (inr q))
total k (either r s) F = total k r (λ p. F (inl p)) + total k s (λ q. F (inr q))
total k (both r s) F = total k r (λ p. total k s (λ q. F (p, q)))
total k empty F = 0
total k (star r) F = total k r F
total k (sequence_at r d) F = total (on d) r F

-- no part above m: the sum is at most m for each state
leaf_most : (k : Clock) (m : ℕ) (F : LeafState k → ℕ) → ((p : LeafState k) → F p ≤ m) → leaf_total k F ≤ leaf_states k * m
leaf_most free m F h = omega (arith, h tt)
leaf_most (on c) m F h = omega (arith, h waiting, h over)

sum_most : (a b x y m : ℕ) → x ≤ a * m → y ≤ b * m → x + y ≤ (a + b) * m
sum_most a b x y m h i = rw (add-mul a b m) (omega arith)

pub total_most : (k : Clock) (r : Sequence) (m : ℕ) (F : State k r → ℕ) → ((p : State k r) → F p ≤ m) → total k r F ≤ states k r * m
total_most k (condition b) m F h = leaf_most k m F h
total_most k (concat r s) m F h =
    sum_most (states k r) (states k s) _ _ m (total_most k r m (λ p. F (inl p)) (λ p. h (inl p))) (total_most k s m (λ q. F (inr q)) (λ q. h (inr q)))
total_most k (fusion r s) m F h =
    sum_most (states k r) (states k s) _ _ m (total_most k r m (λ p. F (inl p)) (λ p. h (inl p))) (total_most k s m (λ q. F (inr q)) (λ q. h (inr q)))
total_most k (either r s) m F h =
    sum_most (states k r) (states k s) _ _ m (total_most k r m (λ p. F (inl p)) (λ p. h (inl p))) (total_most k s m (λ q. F (inr q)) (λ q. h (inr q)))
total_most k (both r s) m F h =
    rw (mul_assoc (states k r) (states k s) m)
    (total_most k r (states k s * m) (λ p. total k s (λ q. F (p, q))) (λ p. total_most k s m (λ q. F (p, q)) (λ q. h (p, q))))
total_most k empty m F h = omega arith
total_most k (star r) m F h = total_most k r m F h
total_most k (sequence_at r d) m F h = total_most (on d) r m F h

-- no part falls, so the sum does not
leaf_mono : (k : Clock) (F G : LeafState k → ℕ) → ((p : LeafState k) → F p ≤ G p) → leaf_total k F ≤ leaf_total k G
leaf_mono free F G h = h tt
leaf_mono (on c) F G h = omega (arith, h waiting, h over)

total_mono : (k : Clock) (r : Sequence) (F G : State k r → ℕ) → ((p : State k r) → F p ≤ G p) → total k r F ≤ total k r G
total_mono k (condition b) F G h = leaf_mono k F G h
total_mono k (concat r s) F G h =
    omega (arith, total_mono k r (λ p. F (inl p)) (λ p. G (inl p)) (λ p. h (inl p)), total_mono k s (λ q. F (inr q)) (λ q. G (inr q)) (λ q. h (inr q)))
total_mono k (fusion r s) F G h =
    omega (arith, total_mono k r (λ p. F (inl p)) (λ p. G (inl p)) (λ p. h (inl p)), total_mono k s (λ q. F (inr q)) (λ q. G (inr q)) (λ q. h (inr q)))
total_mono k (either r s) F G h =
    omega (arith, total_mono k r (λ p. F (inl p)) (λ p. G (inl p)) (λ p. h (inl p)), total_mono k s (λ q. F (inr q)) (λ q. G (inr q)) (λ q. h (inr q)))
total_mono k (both r s) F G h =
    total_mono k r (λ p. total k s (λ q. F (p, q))) (λ p. total k s (λ q. G (p, q))) (λ p. total_mono k s (λ q. F (p, q)) (λ q. G (p, q)) (λ q. h (p, q)))
total_mono k empty F G h = omega arith
total_mono k (star r) F G h = total_mono k r F G h
total_mono k (sequence_at r d) F G h = total_mono (on d) r F G h

-- and where a part grows, the sum does
leaf_more : (k : Clock) (F G : LeafState k → ℕ) → ((p : LeafState k) → F p ≤ G p) → (p : LeafState k) → F p < G p → leaf_total k F < leaf_total k G
leaf_more free F G h p i = i
leaf_more (on c) F G h waiting i = omega (arith, h over)
leaf_more (on c) F G h over i = omega (arith, h waiting)

pub total_more : (k : Clock) (r : Sequence) (F G : State k r → ℕ) → ((p : State k r) → F p ≤ G p) → (p : State k r) → F p < G p → total k r F < total k r G
total_more k (condition b) F G h p i = leaf_more k F G h p i
total_more k (concat r s) F G h (inl p) i =
    omega (arith, total_more k r (λ p. F (inl p)) (λ p. G (inl p)) (λ p. h (inl p)) p i, total_mono k s (λ q. F (inr q)) (λ q. G (inr q)) (λ q. h (inr q)))
total_more k (concat r s) F G h (inr q) i =
    omega (arith, total_mono k r (λ p. F (inl p)) (λ p. G (inl p)) (λ p. h (inl p)), total_more k s (λ q. F (inr q)) (λ q. G (inr q)) (λ q. h (inr q)) q i)
total_more k (fusion r s) F G h (inl p) i =
    omega (arith, total_more k r (λ p. F (inl p)) (λ p. G (inl p)) (λ p. h (inl p)) p i, total_mono k s (λ q. F (inr q)) (λ q. G (inr q)) (λ q. h (inr q)))
total_more k (fusion r s) F G h (inr q) i =
    omega (arith, total_mono k r (λ p. F (inl p)) (λ p. G (inl p)) (λ p. h (inl p)), total_more k s (λ q. F (inr q)) (λ q. G (inr q)) (λ q. h (inr q)) q i)
total_more k (either r s) F G h (inl p) i =
    omega (arith, total_more k r (λ p. F (inl p)) (λ p. G (inl p)) (λ p. h (inl p)) p i, total_mono k s (λ q. F (inr q)) (λ q. G (inr q)) (λ q. h (inr q)))
total_more k (either r s) F G h (inr q) i =
    omega (arith, total_mono k r (λ p. F (inl p)) (λ p. G (inl p)) (λ p. h (inl p)), total_more k s (λ q. F (inr q)) (λ q. G (inr q)) (λ q. h (inr q)) q i)
total_more k (both r s) F G h (p, q) i =
    total_more k r (λ p. total k s (λ q. F (p, q))) (λ p. total k s (λ q. G (p, q)))
    (λ p. total_mono k s (λ q. F (p, q)) (λ q. G (p, q)) (λ q. h (p, q))) p
    (total_more k s (λ q. F (p, q)) (λ q. G (p, q)) (λ q. h (p, q)) q i)
total_more k empty F G h p i = absurd p
total_more k (star r) F G h p i = total_more k r F G h p i
total_more k (sequence_at r d) F G h p i = total_more (on d) r F G h p i

-- how many states are in a set
abbrev pub one : Bool → ℕ
one true = 1
one false = 0

abbrev pub count : (k : Clock) (r : Sequence) → (State k r → Bool) → ℕ
count k r S = total k r (λ p. one (S p))

one_most : (b : Bool) → one b ≤ 1
one_most true = omega arith
one_most false = omega arith

one_mono : (a b : Bool) → (T a → T b) → one a ≤ one b
one_mono true true h = omega arith
one_mono true false h = absurd (h tt)
one_mono false b h = omega arith

pub one_more : (a b : Bool) → T b → (T a → ⊥) → one a < one b
one_more true b h n = absurd (n tt)
one_more false true h n = omega arith
one_more false false h n = absurd h

pub count_most : (k : Clock) (r : Sequence) (S : State k r → Bool) → count k r S ≤ states k r
count_most k r S = omega (arith, total_most k r 1 (λ p. one (S p)) (λ p. one_most (S p)), mul-one (states k r))

pub count_more : (k : Clock) (r : Sequence) (S R : State k r → Bool) → ((p : State k r) → T (S p) → T (R p))
    → (p : State k r) → T (R p) → (T (S p) → ⊥) → count k r S < count k r R
count_more k r S R h p x n = total_more k r (λ p. one (S p)) (λ p. one (R p)) (λ p. one_mono (S p) (R p) (h p)) p (one_more (S p) (R p) x n)
