-- The clocked meaning: matches of sequences and satisfaction of formulas under a clock.
use Rattle.std.specs.Prelude.{◌≡◌, ℕ, suc, ◌<◌, ◌⊎◌, List, [], ◌∷◌, ◌++◌}
use Rattle.psl.specs.Syntax.{Condition}
use Rattle.psl.specs.Syntax.{Sequence, condition, concat, fusion, either, both, empty, star, sequence_at}
use Rattle.psl.specs.Syntax.{Formula, strong, weak, strong_sequence, weak_sequence, negated, conjoined, next, until, abort, implies, formula_at}
use Rattle.psl.specs.Letter.{Letter}
use Rattle.psl.specs.Word.{Word, with_tops, mir, seen, Place, Holds, from, front, Tick, Ends}

-- r[*], for a sequence that matches P: the empty list, or a non-empty match and then such a list again
pub data Repeats (P : List Letter → Type 0) : List Letter → Type 0 where
  done : Repeats P []
  more : {v : List Letter} (l : Letter) (u w : List Letter) → v ≡ (l ∷ u) ++ w → P (l ∷ u) → Repeats P w → Repeats P v

-- the list v matches a sequence under the clock c
abbrev pub Matches : Condition → Sequence → List Letter → Type 0
Matches c (condition b) v = Tick c v × Ends b v
Matches c (concat r s) v = (u w : List Letter) × (v ≡ u ++ w) × Matches c r u × Matches c s w
Matches c (fusion r s) v =
    (u : List Letter) × (l : Letter) × (w : List Letter) × (v ≡ u ++ (l ∷ w)) × Matches c r (u ++ (l ∷ [])) × Matches c s (l ∷ w)
Matches c (either r s) v = Matches c r v ⊎ Matches c s v
Matches c (both r s) v = Matches c r v × Matches c s v
Matches c empty v = v ≡ []
Matches c (star r) v = Repeats (Matches c r) v
Matches c (sequence_at r d) v = Matches d r v

-- some w[0..j] matches r
abbrev pub Starts : Condition → Sequence → Word → Type 0
Starts c r w = (j : ℕ) × Place w j × Matches c r (front w (suc j))

-- the word w satisfies a formula under the clock c
abbrev pub Satisfies : Condition → Formula → Word → Type 0
Satisfies c (strong b) w = (j : ℕ) × Tick c (front w (suc j)) × Holds (seen w j) b
Satisfies c (weak b) w = (j : ℕ) → Place w j → Tick c (front (mir w) (suc j)) → Holds (seen w j) b
Satisfies c (strong_sequence r) w = Starts c r w
Satisfies c (weak_sequence r) w = (j : ℕ) → Place w j → Starts c r (with_tops (front w (suc j)))
Satisfies c (negated f) w = Satisfies c f (mir w) → ⊥
Satisfies c (conjoined f g) w = Satisfies c f w × Satisfies c g w
Satisfies c (next f) w =
    (j : ℕ) × (k : ℕ) × Tick c (front w (suc j)) × Tick c (front (from w (suc j)) (suc k)) × Satisfies c f (from (from w (suc j)) k)
Satisfies c (until f g) w =
    (k : ℕ) × Holds (seen w k) c × Satisfies c g (from w k) × ((j : ℕ) → j < k → Holds (seen (mir w) j) c → Satisfies c f (from w j))
Satisfies c (abort f b) w = Satisfies c f w ⊎ ((j : ℕ) × Holds (seen w j) b × Satisfies c f (with_tops (front w j)))
Satisfies c (implies r f) w = (j : ℕ) → Place w j → Matches c r (front (mir w) (suc j)) → Satisfies c f (from w j)
Satisfies c (formula_at f d) w = Satisfies d f w
