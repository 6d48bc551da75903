-- The weak condition true, and its rewriting under the clock true, say the same.
use Rattle.std.proofs.Common.{ℕ, zero, suc, ◌↔◌, List, [], ◌∷◌, inl, inr}
use Rattle.psl.specs.Syntax.{truth, weak}
use Rattle.psl.specs.Letter.{Letter, top, bottom, ordinary}
use Rattle.psl.specs.Word.{Word, Tail, with_tail, end, tops, bottoms, mir, seen, Place, Holds, front, Tick}
use Rattle.psl.specs.Clocked.{Satisfies}
use Rattle.psl.specs.Unclocked.{UnclockedSatisfies}
use Rattle.psl.specs.Removal.{unclock}
use Rattle.psl.proofs.Implied.{clock_removed}

-- after a first letter that satisfies true, or at an end, there is no later tick of true in the mirror
later : (v : List Letter) (t : Tail) → UnclockedSatisfies (weak truth) (with_tail v t) → (i : ℕ)
    → Tick truth (front (mir (with_tail v t)) (suc (suc i))) → ⊥
later [] end h i tick = tick.0
later [] tops h i tick = tick.0
later [] bottoms (inl x) i tick = x
later [] bottoms (inr none) i tick = none tt
later (top ∷ v) t h i tick = tick.0
later (bottom ∷ v) t (inl x) i tick = x
later (bottom ∷ v) t (inr none) i tick = none tt
later (ordinary own other ∷ v) t h i tick = tick.0

first : (w : Word) → UnclockedSatisfies (weak truth) w → Place w zero → Holds (seen w zero) truth
first w (inl x) place = x
first w (inr none) place = absurd (none place)

clocked : (w : Word) → UnclockedSatisfies (weak truth) w → (j : ℕ) → Place w j → Tick truth (front (mir w) (suc j)) → Holds (seen w j) truth
clocked w h zero place tick = first w h place
clocked w h (suc i) place tick = absurd (later w.letters w.tail h i tick)

unclocked : (v : List Letter) (t : Tail) → Satisfies truth (weak truth) (with_tail v t) → UnclockedSatisfies (weak truth) (with_tail v t)
unclocked [] end h = inr (λ x. x)
unclocked [] tops h = inl tt
unclocked [] bottoms h = inl (h zero tt tt)
unclocked (top ∷ v) t h = inl tt
unclocked (bottom ∷ v) t h = inl (h zero tt tt)
unclocked (ordinary own other ∷ v) t h = inl tt

pub new_agrees : (w : Word) → UnclockedSatisfies (weak truth) w ↔ UnclockedSatisfies (unclock truth (weak truth)) w
new_agrees w =
    let removal = clock_removed.satisfies truth (weak truth) w in
    (λ h. removal.0 (clocked w h), λ h. unclocked w.letters w.tail (removal.1 h))
