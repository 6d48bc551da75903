-- One meaning over a clock that may be absent: under a clock it is the clocked meaning, free of one the unclocked.
use Rattle.std.specs.Prelude.{◌≡◌, ℕ, suc, ◌<◌, Bool, true, false, ◌&&◌, T, ◌⊎◌, List, [], ◌∷◌, ◌++◌}
use Rattle.std.proofs.Math.Option.{Option, none, some}
use Rattle.psl.specs.Syntax.{Condition, negation, Sequence, condition, concat, fusion, either, both, empty, star, sequence_at, Formula, strong}
use Rattle.psl.specs.Syntax.{weak, strong_sequence, weak_sequence, negated, conjoined, next, until, abort, implies, formula_at}
use Rattle.psl.specs.Letter.{Letter, satisfies}
use Rattle.psl.specs.Word.{Word, with_tops, mir, seen, Place, Holds, from, front, Ends}
use Rattle.psl.specs.Clocked.{Repeats}

-- no clock, or the clock c
pub data Clock : Type 0 where
  free : Clock
  on : Condition → Clock

-- whether the letter is where a tick ends; free of a clock each letter is
abbrev pub ticks : Clock → Letter → Bool
ticks free l = true
ticks (on c) l = satisfies l c

-- whether the letter may stand before the end of a tick; free of a clock none may
abbrev pub waits : Clock → Letter → Bool
waits free l = false
waits (on c) l = satisfies l (negation c)

-- there is a letter, and it is where a tick ends
abbrev pub Ticks : Clock → Option Letter → Type 0
Ticks k none = ⊥
Ticks k (some l) = T (ticks k l)

-- a tick: the last letter ends it, and the earlier letters wait
abbrev pub TickUnder : Clock → List Letter → Type 0
TickUnder k [] = ⊥
TickUnder k (l ∷ []) = T (ticks k l)
TickUnder k (l ∷ (m ∷ v)) = T (waits k l) × TickUnder k (m ∷ v)

-- the list v matches a sequence
abbrev pub MatchesUnder : Clock → Sequence → List Letter → Type 0
MatchesUnder k (condition b) v = TickUnder k v × Ends b v
MatchesUnder k (concat r s) v = (u : List Letter) × (w : List Letter) × (v ≡ u ++ w) × MatchesUnder k r u × MatchesUnder k s w
MatchesUnder k (fusion r s) v =
    (u : List Letter) × (l : Letter) × (w : List Letter) × (v ≡ u ++ (l ∷ w)) × MatchesUnder k r (u ++ (l ∷ [])) × MatchesUnder k s (l ∷ w)
MatchesUnder k (either r s) v = MatchesUnder k r v ⊎ MatchesUnder k s v
MatchesUnder k (both r s) v = MatchesUnder k r v × MatchesUnder k s v
MatchesUnder k empty v = v ≡ []
MatchesUnder k (star r) v = Repeats (MatchesUnder k r) v
MatchesUnder k (sequence_at r d) v = MatchesUnder (on d) r v

-- some w[0..j] matches r
abbrev pub StartsUnder : Clock → Sequence → Word → Type 0
StartsUnder k r w = (j : ℕ) × Place w j × MatchesUnder k r (front w (suc j))

-- the word w satisfies a formula
abbrev pub SatisfiesUnder : Clock → Formula → Word → Type 0
SatisfiesUnder k (strong b) w = (j : ℕ) × TickUnder k (front w (suc j)) × Holds (seen w j) b
SatisfiesUnder k (weak b) w = (j : ℕ) → Place w j → TickUnder k (front (mir w) (suc j)) → Holds (seen w j) b
SatisfiesUnder k (strong_sequence r) w = StartsUnder k r w
SatisfiesUnder k (weak_sequence r) w = (j : ℕ) → Place w j → StartsUnder k r (with_tops (front w (suc j)))
SatisfiesUnder k (negated f) w = SatisfiesUnder k f (mir w) → ⊥
SatisfiesUnder k (conjoined f g) w = SatisfiesUnder k f w × SatisfiesUnder k g w
SatisfiesUnder k (next f) w =
    (i : ℕ) × (j : ℕ) × TickUnder k (front w (suc i)) × Place (from w (suc i)) j × TickUnder k (front (from w (suc i)) (suc j))
    × SatisfiesUnder k f (from (from w (suc i)) j)
SatisfiesUnder k (until f g) w =
    (i : ℕ) × Ticks k (seen w i) × SatisfiesUnder k g (from w i) × ((j : ℕ) → j < i → Ticks k (seen (mir w) j) → SatisfiesUnder k f (from w j))
SatisfiesUnder k (abort f b) w = SatisfiesUnder k f w ⊎ ((j : ℕ) × Holds (seen w j) b × SatisfiesUnder k f (with_tops (front w j)))
SatisfiesUnder k (implies r f) w = (j : ℕ) → Place w j → MatchesUnder k r (front (mir w) (suc j)) → SatisfiesUnder k f (from w j)
SatisfiesUnder k (formula_at f d) w = SatisfiesUnder (on d) f w

-- the sequence has no @
abbrev pub clock_free : Sequence → Bool
clock_free (condition b) = true
clock_free (concat r s) = clock_free r && clock_free s
clock_free (fusion r s) = clock_free r && clock_free s
clock_free (either r s) = clock_free r && clock_free s
clock_free (both r s) = clock_free r && clock_free s
clock_free empty = true
clock_free (star r) = clock_free r
clock_free (sequence_at r d) = false
