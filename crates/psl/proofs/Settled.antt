-- The twelve settled cases, proved of the definitions.
use Rattle.std.proofs.Common.{ℕ, zero, suc, ◌<◌, List, [], ◌∷◌, refl, inl, inr, arith}
use Rattle.psl.specs.Syntax.{Condition, truth, atom, Sequence, condition, concat, both}
use Rattle.psl.specs.Syntax.{Formula, strong, weak_sequence, negated, next, until, abort, implies}
use Rattle.psl.specs.Letter.{Letter, top, bottom}
use Rattle.psl.specs.Word.{Tail, end, tops, bottoms, with_tail, with_tops, mir, seen, from, Place, Holds, front, Tick}
use Rattle.psl.specs.Clocked.{Matches, Starts, Satisfies}
use Rattle.psl.specs.Verdict.{held_for_good, holds}
use Rattle.psl.specs.Cases.{p, q, s, k, among, wire, p_is_x, is, TwelveSettledCases}
use Rattle.psl.proofs.Refuted.{Topless, failing, waiting, no_place, nothing_beyond, bottom_first, no_tick_beyond}
use Rattle.psl.proofs.Refuted.{strong_fails, match_fails, next_fails, concat_rest}

-- the letters {p} and {}
abbrev P : Letter
P = wire (p ∷ [])

abbrev O : Letter
O = wire []

-- p;q as a sequence, and p! U q!
abbrev pq : Sequence
pq = concat (is p) (is q)

abbrev p_until_q : Formula
p_until_q = until (strong (atom p)) (strong (atom q))

-- X! p! on {} waits for a second letter
next_waits : (t : Tail) → Topless t → Satisfies truth (next (strong (atom p))) (with_tail (O ∷ []) t) → ⊥
next_waits t = next_fails (among []) (among []) (strong (atom p)) t

-- where {p} and then l stand first, p;q needs q at l
pq_second : (l : Letter) (v : List Letter) (t : Tail)
    → ((n : ℕ) → Matches truth (is q) (front (with_tail (l ∷ v) t) n) → ⊥) → Starts truth pq (with_tail (P ∷ l ∷ v) t) → ⊥
pq_second l v t n (j, h, m) = n j (concat_rest (among (p ∷ [])) (among (p ∷ [])) (atom p) (is q) (front (with_tail (l ∷ v) t) j) m)

-- the word {p}, top as a match of p and one more letter
p_and_top : (b : Condition) → Matches truth (concat (is p) (condition b)) (P ∷ top ∷ [])
p_and_top b = (P ∷ [], top ∷ [], refl, (tt, tt), (tt, tt))

-- weak p;q holds on {p}
weak_pq : (j : ℕ) → Place (with_tail (P ∷ []) end) j → Starts truth pq (with_tops (front (with_tail (P ∷ []) end) (suc j)))
weak_pq zero h = (1, tt, p_and_top (atom q))
weak_pq (suc j) h = absurd (no_place j h)

bottom_no_q : (n : ℕ) → Matches truth (is q) (front (with_tops (bottom ∷ [])) n) → ⊥
bottom_no_q zero (h, e) = h
bottom_no_q (suc n) (h, e) = bottom_first truth (front (with_tops []) n) h

weak_pq_bottoms : Satisfies truth (weak_sequence pq) (with_tail (P ∷ []) bottoms) → ⊥
weak_pq_bottoms x = pq_second bottom [] tops bottom_no_q (x 1 tt)

-- weak p;q fails on {p}, {}: the prefix {p}, {} leads nowhere
weak_pq_fails : (t : Tail) → Satisfies truth (weak_sequence pq) (with_tail (P ∷ O ∷ []) t) → ⊥
weak_pq_fails t x = pq_second O [] tops (match_fails (among []) (among []) (atom q) [] tops (λ h. h)) (x 1 tt)

-- p;q is not complete on {p}
pq_waits : (t : Tail) → Topless t → Starts truth pq (with_tail (P ∷ []) t) → ⊥
pq_waits t x (j, h, m) =
    no_tick_beyond t x truth j (concat_rest (among (p ∷ [])) (among (p ∷ [])) (atom p) (is q) (front (with_tail [] t) j) m).0

-- nothing matches both p;p and p
both_fails : (t : Tail) → Satisfies truth (weak_sequence (both (concat (is p) (is p)) (is p))) (with_tail (P ∷ []) t) → ⊥
both_fails t x = two_lengths (x 0 tt)
  where
    two_lengths : Starts truth (both (concat (is p) (is p)) (is p)) (with_tops (P ∷ [])) → ⊥
    two_lengths (zero, h, (m, n)) = (concat_rest (among (p ∷ [])) (among (p ∷ [])) (atom p) (is p) [] m).0
    two_lengths (suc j, h, (m, n)) = n.0.0

-- p! U q! on {p} waits for q
until_waits : (t : Tail) → Topless t → Satisfies truth p_until_q (with_tail (P ∷ []) t) → ⊥
until_waits t x (zero, h, g, b) = strong_fails (among (p ∷ [])) (among (p ∷ [])) (atom q) [] t (λ y. y) g
until_waits t x (suc i, h, g, b) = nothing_beyond t x i truth h

until_tops : Satisfies truth p_until_q (with_tops (P ∷ []))
until_tops = (1, tt, (zero, tt, tt), earlier)
  where
    earlier : (j : ℕ) → j < 1 → Holds (seen (mir (with_tops (P ∷ []))) j) truth → Satisfies truth (strong (atom p)) (from (with_tops (P ∷ [])) j)
    earlier zero i h = (zero, tt, tt)
    earlier (suc j) i h = let z : ⊥ = omega arith in absurd z

-- p! U q! fails on {p}, {}: neither p nor q at {}
until_fails : (t : Tail) → Satisfies truth p_until_q (with_tail (P ∷ O ∷ []) t) → ⊥
until_fails t (zero, h, g, b) = strong_fails (among (p ∷ [])) (among (p ∷ [])) (atom q) (O ∷ []) t (λ y. y) g
until_fails t (suc zero, h, g, b) = strong_fails (among []) (among []) (atom q) [] t (λ y. y) g
until_fails t (suc (suc i), h, g, b) = strong_fails (among []) (among []) (atom p) [] t (λ y. y) (b 1 (omega arith) tt)

-- no abort on {p}
abort_waits : (t : Tail) → Topless t → Satisfies truth (abort p_until_q (atom s)) (with_tail (P ∷ []) t) → ⊥
abort_waits t x (inl u) = until_waits t x u
abort_waits t x (inr (zero, h, u)) = h
abort_waits t x (inr (suc j, h, u)) = nothing_beyond t x j (atom s) h

-- p!@k waits for the clock k
clock_waits : (t : Tail) → Topless t → Satisfies (atom k) (strong (atom p)) (with_tail (O ∷ []) t) → ⊥
clock_waits t x (zero, h, b) = h
clock_waits t x (suc j, h, b) = nothing_beyond t x j (atom p) b

clock_waits_on : (t : Tail) → Topless t → Satisfies (atom k) (strong (atom p)) (with_tail (O ∷ P ∷ []) t) → ⊥
clock_waits_on t x (zero, h, b) = h
clock_waits_on t x (suc zero, h, b) = h.1
clock_waits_on t x (suc (suc j), h, b) = nothing_beyond t x j (atom p) b

-- p;true |-> q! asks for q one letter after p
abbrev p_then : Sequence
p_then = concat (is p) (condition truth)

then_rest : (v : List Letter) → Matches truth p_then (P ∷ v) → Tick truth v
then_rest v m = (concat_rest (among (p ∷ [])) (among (p ∷ [])) (atom p) (condition truth) v m).0

implies_bottoms : Satisfies truth (implies p_then (strong (atom q))) (with_tail (P ∷ []) bottoms) → ⊥
implies_bottoms x = missing (x 1 tt (p_and_top truth))
  where
    missing : Satisfies truth (strong (atom q)) (with_tail [] bottoms) → ⊥
    missing (j, h, b) = nothing_beyond bottoms tt j (atom q) b

implies_holds : Satisfies truth (implies p_then (strong (atom q))) (with_tail (P ∷ []) end)
implies_holds zero h m = absurd (then_rest [] m)
implies_holds (suc j) h m = absurd (no_place j h)

implies_held : Satisfies truth (implies p_then (strong (atom q))) (with_tail (P ∷ wire (q ∷ []) ∷ []) bottoms)
implies_held zero h m = absurd (then_rest [] m)
implies_held (suc zero) h m = (zero, tt, tt)
implies_held (suc (suc j)) h m = absurd (then_rest (wire (q ∷ []) ∷ front (with_tops []) (suc j)) m).0

-- X! finds no tick at a bottom
next_at_bottom : (f : Formula) (v : List Letter) (t : Tail) → Satisfies truth (next f) (with_tail (bottom ∷ v) t) → ⊥
next_at_bottom f v t (j, i, a, b, x) = bottom_first truth (front (with_tail v t) j) a

-- where p is x, neither p! nor its negation
p_fails_at_x : (t : Tail) → Satisfies truth (strong (atom p)) (with_tail (p_is_x ∷ []) t) → ⊥
p_fails_at_x t = strong_fails (among []) (among (p ∷ [])) (atom p) [] t (λ h. h)

not_p_fails_at_x : (t : Tail) → Satisfies truth (negated (strong (atom p))) (with_tail (p_is_x ∷ []) t) → ⊥
not_p_fails_at_x t n = n (zero, tt, tt)

infixr 30 ◌and◌
-- a fact, and those after it
◌and◌ : {A B : Type 0} → A → B → A × B
◌and◌ a b = (a, b)

-- the cases in their order, each with its verdicts
pub twelve_settled : TwelveSettledCases
twelve_settled =
    (held_for_good (zero, tt, tt) and tt)
    and (waiting next_waits (zero, zero, tt, tt, (zero, tt, tt)) and held_for_good (zero, zero, tt, tt, (zero, tt, tt)) and tt)
    and (holds weak_pq_bottoms weak_pq and failing weak_pq_fails and tt)
    and (waiting pq_waits (1, tt, p_and_top (atom q)) and held_for_good (1, tt, (P ∷ [], wire (q ∷ []) ∷ [], refl, (tt, tt), (tt, tt))) and tt)
    and (failing both_fails and tt)
    and (waiting until_waits until_tops and failing until_fails and tt)
    and (waiting abort_waits (inl until_tops) and held_for_good (inr (1, tt, until_tops)) and tt)
    and (held_for_good (inr (zero, tt, (zero, tt, tt))) and tt)
    and (waiting clock_waits (1, (tt, tt), tt) and waiting clock_waits_on (2, (tt, (tt, tt)), tt) and held_for_good (2, (tt, (tt, tt)), tt) and tt)
    and (holds implies_bottoms implies_holds and held_for_good implies_held and tt)
    and (failing (next_at_bottom (strong truth) []) and failing (next_at_bottom (strong truth) (O ∷ [])) and tt)
    and (failing p_fails_at_x and tt)
    and (failing not_p_fails_at_x and tt)
    and tt
