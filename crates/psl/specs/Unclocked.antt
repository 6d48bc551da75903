-- The unclocked meaning; it has no @.
use Rattle.std.specs.Prelude.{◌≡◌, ℕ, zero, suc, ◌<◌, T, ◌⊎◌, List, [], ◌∷◌, ◌++◌}
use Rattle.psl.specs.Syntax.{Sequence, condition, concat, fusion, either, both, empty, star, sequence_at}
use Rattle.psl.specs.Syntax.{Formula, strong, weak, strong_sequence, weak_sequence, negated, conjoined, next, until, abort, implies, formula_at}
use Rattle.psl.specs.Letter.{Letter, satisfies}
use Rattle.psl.specs.Word.{Word, with_tops, mir, seen, Place, Holds, from, front}
use Rattle.psl.specs.Clocked.{Repeats}

-- the list v matches a sequence that has no @
abbrev pub UnclockedMatches : Sequence → List Letter → Type 0
UnclockedMatches (condition b) v = (l : Letter) × (v ≡ l ∷ []) × T (satisfies l b)
UnclockedMatches (concat r s) v = (u w : List Letter) × (v ≡ u ++ w) × UnclockedMatches r u × UnclockedMatches s w
UnclockedMatches (fusion r s) v =
    (u : List Letter) × (l : Letter) × (w : List Letter) × (v ≡ u ++ (l ∷ w)) × UnclockedMatches r (u ++ (l ∷ [])) × UnclockedMatches s (l ∷ w)
UnclockedMatches (either r s) v = UnclockedMatches r v ⊎ UnclockedMatches s v
UnclockedMatches (both r s) v = UnclockedMatches r v × UnclockedMatches s v
UnclockedMatches empty v = v ≡ []
UnclockedMatches (star r) v = Repeats (UnclockedMatches r) v
UnclockedMatches (sequence_at r d) v = ⊥

-- some w[0..j] matches r
abbrev pub UnclockedStarts : Sequence → Word → Type 0
UnclockedStarts r w = (j : ℕ) × Place w j × UnclockedMatches r (front w (suc j))

-- the word w satisfies a formula that has no @
abbrev pub UnclockedSatisfies : Formula → Word → Type 0
UnclockedSatisfies (strong b) w = Holds (seen w zero) b
UnclockedSatisfies (weak b) w = Holds (seen w zero) b ⊎ (Place w zero → ⊥)
UnclockedSatisfies (strong_sequence r) w = UnclockedStarts r w
UnclockedSatisfies (weak_sequence r) w = (j : ℕ) → Place w j → UnclockedStarts r (with_tops (front w (suc j)))
UnclockedSatisfies (negated f) w = UnclockedSatisfies f (mir w) → ⊥
UnclockedSatisfies (conjoined f g) w = UnclockedSatisfies f w × UnclockedSatisfies g w
UnclockedSatisfies (next f) w = Place w 1 × UnclockedSatisfies f (from w 1)
UnclockedSatisfies (until f g) w =
    (k : ℕ) × Place w k × UnclockedSatisfies g (from w k) × ((j : ℕ) → j < k → UnclockedSatisfies f (from w j))
UnclockedSatisfies (abort f b) w =
    UnclockedSatisfies f w ⊎ ((j : ℕ) × Holds (seen w j) b × UnclockedSatisfies f (with_tops (front w j)))
UnclockedSatisfies (implies r f) w =
    (j : ℕ) → Place w j → UnclockedMatches r (front (mir w) (suc j)) → UnclockedSatisfies f (from w j)
UnclockedSatisfies (formula_at f d) w = ⊥
