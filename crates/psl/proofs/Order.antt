-- The order of words: letters, places, prefixes and tails.
use Rattle.std.proofs.Common.{ℕ, zero, suc, ◌≤◌, List, [], ◌∷◌, ◌++◌, le_of_suc-le-suc, not-suc-le-zero}
use mathlib.Core.Option.{Option, none, some, map}
use Rattle.psl.specs.Syntax.{Condition}
use Rattle.psl.specs.Letter.{Letter, mirror}
use Rattle.psl.specs.Word.{Tail, tops, bottoms, Word, with_tail, with_tops, mir, rest, seen, Present, Place, Holds, from, or_bottom, front}
use Rattle.psl.specs.Order.{Below, low, high, same, ◌⊑◌}
use Rattle.psl.specs.Pairwise.{Pairwise}
use Rattle.psl.proofs.Places.{place_first, seen_mir}

-- letters
pub below_holds : {x y : Option Letter} (b : Condition) → Below x y → Holds x b → Holds y b
below_holds b low h = absurd h
below_holds b high h = tt
below_holds b same h = h

below_mirror : {x y : Option Letter} → Below x y → Below (map mirror y) (map mirror x)
below_mirror low = high
below_mirror high = low
below_mirror same = same

pub below_or_bottom : {x y : Option Letter} → Below x y → Below (some (or_bottom x)) (some (or_bottom y))
below_or_bottom low = low
below_or_bottom high = high
below_or_bottom same = same

pub ⊑-mir : (w w' : Word) → w ⊑ w' → mir w' ⊑ mir w
⊑-mir w w' h i = rw (seen_mir w i, seen_mir w' i) (below_mirror (h i))

pub ⊑-from : (k : ℕ) (w w' : Word) → w ⊑ w' → from w k ⊑ from w' k
⊑-from zero w w' h = h
⊑-from (suc k) w w' h = ⊑-from k (rest w) (rest w') (λ i. h (suc i))

-- lists, letter by letter
abbrev pub Above : Letter → Letter → Type 0
Above l m = Below (some l) (some m)

abbrev pub Raised : List Letter → List Letter → Type 0
Raised u v = Pairwise Above u v

pub front_raised : (n : ℕ) (w w' : Word) → w ⊑ w' → Raised (front w n) (front w' n)
front_raised zero w w' h = tt
front_raised (suc n) w w' h = (below_or_bottom (h zero), front_raised n (rest w) (rest w') (λ i. h (suc i)))

pub tops_raised : (u v : List Letter) → Raised u v → with_tops u ⊑ with_tops v
tops_raised [] [] h i = same
tops_raised [] (m ∷ v) h i = absurd h
tops_raised (l ∷ u) [] h i = absurd h
tops_raised (l ∷ u) (m ∷ v) h zero = h.0
tops_raised (l ∷ u) (m ∷ v) h (suc i) = tops_raised u v h.1 i

bottoms_least : (i : ℕ) (w : Word) → Below (seen (with_tail [] bottoms) i) (seen w i)
bottoms_least zero w = low
bottoms_least (suc i) w = bottoms_least i (rest w)

pub tops_most : (i : ℕ) (w : Word) → Below (seen w i) (seen (with_tail [] tops) i)
tops_most zero w = high
tops_most (suc i) w = tops_most i (rest w)

pub bottoms-⊑ : (v u : List Letter) (t : Tail) → with_tail v bottoms ⊑ with_tail (v ++ u) t
bottoms-⊑ [] u t i = bottoms_least i (with_tail u t)
bottoms-⊑ (l ∷ v) u t zero = same
bottoms-⊑ (l ∷ v) u t (suc i) = bottoms-⊑ v u t i

pub ⊑-tops : (v u : List Letter) (t : Tail) → with_tail (v ++ u) t ⊑ with_tail v tops
⊑-tops [] u t i = tops_most i (with_tail u t)
⊑-tops (l ∷ v) u t zero = same
⊑-tops (l ∷ v) u t (suc i) = ⊑-tops v u t i

present_same : (x : Option Letter) → Present x → Below x (some (or_bottom x))
present_same none p = absurd p
present_same (some l) p = same

-- a word is below each of its prefixes, with tops after it
pub ⊑-front : (j : ℕ) (w : Word) → Place w j → w ⊑ with_tops (front w j)
⊑-front zero w p i = tops_most i w
⊑-front (suc j) w p zero = present_same (seen w zero) (place_first (suc j) w p)
⊑-front (suc j) w p (suc i) = ⊑-front j (rest w) p i

-- and a longer prefix is below a shorter one
pub front-⊑ : (j k : ℕ) (w : Word) → j ≤ k → with_tops (front w k) ⊑ with_tops (front w j)
front-⊑ zero k w h i = tops_most i (with_tops (front w k))
front-⊑ (suc j) zero w h i = absurd (not-suc-le-zero h)
front-⊑ (suc j) (suc k) w h zero = same
front-⊑ (suc j) (suc k) w h (suc i) = front-⊑ j k (rest w) (le_of_suc-le-suc h) i
