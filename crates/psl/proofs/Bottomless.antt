-- Lists without a bottom: every match is one, so its letters are places of the word.
use Rattle.std.proofs.Common.{ℕ, zero, suc, ◌≤◌, T, List, [], ◌∷◌, ◌++◌, length, inl, inr, le_of_suc-le-suc, arith}
use mathlib.Core.Option.{Option, none, some}
use Rattle.psl.specs.Syntax.{Condition, negation, Sequence, condition, concat, fusion, either, both, empty, star, sequence_at}
use Rattle.psl.specs.Letter.{Letter, top, bottom, ordinary, satisfies}
use Rattle.psl.specs.Word.{bottoms, Word, with_tail, rest, seen, Present, Place, or_bottom, front, Ends}
use Rattle.psl.specs.Clocked.{Repeats, done, more}
use Rattle.psl.specs.Automaton.{live}
use Rattle.psl.specs.OptionalClock.{Clock, free, on, waits, TickUnder, MatchesUnder}

-- no bottom in a match
abbrev pub Bottomless : List Letter → Type 0
Bottomless [] = Unit {0}
Bottomless (top ∷ v) = Bottomless v
Bottomless (bottom ∷ v) = ⊥
Bottomless (ordinary a b ∷ v) = Bottomless v

bottomless_cons : (l : Letter) (b : Condition) (v : List Letter) → T (satisfies l b) → Bottomless v → Bottomless (l ∷ v)
bottomless_cons top b v h k = k
bottomless_cons bottom b v h k = h
bottomless_cons (ordinary x y) b v h k = k

pub bottomless_tail : (l : Letter) (v : List Letter) → Bottomless (l ∷ v) → Bottomless v
bottomless_tail top v k = k
bottomless_tail bottom v k = absurd k
bottomless_tail (ordinary x y) v k = k

bottomless_join : (u w : List Letter) → Bottomless u → Bottomless w → Bottomless (u ++ w)
bottomless_join [] w h k = k
bottomless_join (top ∷ u) w h k = bottomless_join u w h k
bottomless_join (bottom ∷ u) w h k = h
bottomless_join (ordinary x y ∷ u) w h k = bottomless_join u w h k

bottomless_front : (u w : List Letter) → Bottomless (u ++ w) → Bottomless u
bottomless_front [] w h = tt
bottomless_front (top ∷ u) w h = bottomless_front u w h
bottomless_front (bottom ∷ u) w h = h
bottomless_front (ordinary x y ∷ u) w h = bottomless_front u w h

repeats_bottomless : (P : List Letter → Type 0) → ((u : List Letter) → P u → Bottomless u) → {u : List Letter} → Repeats P u → Bottomless u
repeats_bottomless P live done = tt
repeats_bottomless P live (more l u w e p q) = rw e (bottomless_join (l ∷ u) w (live (l ∷ u) p) (repeats_bottomless P live q))

bottomless_present : (x : Option Letter) (v : List Letter) → Bottomless (or_bottom x ∷ v) → Present x
bottomless_present none v h = h
bottomless_present (some l) v h = tt

bottomless_place : (j : ℕ) (w : Word) → Bottomless (front w (suc j)) → Place w j
bottomless_place zero w h = bottomless_present (seen w zero) [] h
bottomless_place (suc j) w h = bottomless_place j (rest w) (bottomless_tail (or_bottom (seen w zero)) (front (rest w) (suc j)) h)

waits_bottomless : (k : Clock) (l : Letter) (v : List Letter) → T (waits k l) → Bottomless v → Bottomless (l ∷ v)
waits_bottomless free l v t h = absurd t
waits_bottomless (on c) l v t h = bottomless_cons l (negation c) v t h

condition_bottomless : (k : Clock) (b : Condition) (v : List Letter) → TickUnder k v → Ends b v → Bottomless v
condition_bottomless k b [] t e = absurd t
condition_bottomless k b (l ∷ []) t e = bottomless_cons l b [] e tt
condition_bottomless k b (l ∷ (m ∷ v)) t e = waits_bottomless k l (m ∷ v) t.0 (condition_bottomless k b (m ∷ v) t.1 e)

tick_bottomless : (c : Condition) (v : List Letter) → TickUnder (on c) v → Bottomless v
tick_bottomless c [] h = absurd h
tick_bottomless c (l ∷ []) h = bottomless_cons l c [] h tt
tick_bottomless c (l ∷ (m ∷ v)) h = bottomless_cons l (negation c) (m ∷ v) h.0 (tick_bottomless c (m ∷ v) h.1)

pub matches_bottomless : (k : Clock) (r : Sequence) (v : List Letter) → MatchesUnder k r v → Bottomless v
matches_bottomless k (condition b) v x = condition_bottomless k b v x.0 x.1
matches_bottomless k (concat r s) v x = rw x.2 (bottomless_join x.0 x.1 (matches_bottomless k r x.0 x.3) (matches_bottomless k s x.1 x.4))
matches_bottomless k (fusion r s) v x =
    rw x.3 (bottomless_join x.0 (x.1 ∷ x.2) (bottomless_front x.0 (x.1 ∷ []) (matches_bottomless k r (x.0 ++ (x.1 ∷ [])) x.4))
    (matches_bottomless k s (x.1 ∷ x.2) x.5))
matches_bottomless k (either r s) v (inl x) = matches_bottomless k r v x
matches_bottomless k (either r s) v (inr x) = matches_bottomless k s v x
matches_bottomless k (both r s) v x = matches_bottomless k r v x.0
matches_bottomless k empty v x = rw x tt
matches_bottomless k (star r) v x = repeats_bottomless (MatchesUnder k r) (matches_bottomless k r) x
matches_bottomless k (sequence_at r d) v x = matches_bottomless (on d) r v x

pub ticking_place : (c : Condition) (j : ℕ) (w : Word) → TickUnder (on c) (front w (suc j)) → Place w j
ticking_place c j w h = bottomless_place j w (tick_bottomless c (front w (suc j)) h)

pub matches_place : (k : Clock) (r : Sequence) (j : ℕ) (w : Word) → MatchesUnder k r (front w (suc j)) → Place w j
matches_place k r j w h = bottomless_place j w (matches_bottomless k r (front w (suc j)) h)

pub bottomless_past : (v : List Letter) (j : ℕ) → length v ≤ j → Bottomless (front (with_tail v bottoms) (suc j)) → ⊥
bottomless_past [] j h x = x
bottomless_past (l ∷ v) zero h x = absurd (omega arith)
bottomless_past (l ∷ v) (suc j) h x = bottomless_past v j (le_of_suc-le-suc h) (bottomless_tail l (front (with_tail v bottoms) (suc j)) x)
