-- The twelve settled cases: properties, letters, and the verdict after each letter.
use Rattle.std.specs.Prelude.{ℕ, ◌+◌, Bool, false, ◌||◌, List, [], ◌∷◌, ◌++◌, length, ◌==◌}
use Rattle.psl.specs.Syntax.{truth, falsity, atom, Sequence, condition, concat, both}
use Rattle.psl.specs.Syntax.{Formula, strong, strong_sequence, weak_sequence, negated, next, until, abort, implies, formula_at}
use Rattle.psl.specs.Letter.{Letter, bottom, ordinary}
use Rattle.psl.specs.Verdict.{Verdict}

-- the atom p
abbrev pub p : ℕ
p = 0

-- the atom q
abbrev pub q : ℕ
q = 1

-- the atom s
abbrev pub s : ℕ
s = 2

-- the atom k
abbrev pub k : ℕ
k = 3

-- whether n is among the numbers
abbrev pub among : List ℕ → ℕ → Bool
among [] n = false
among (m ∷ ms) n = m == n || among ms n

-- the wire letter that satisfies these atoms; it is its own mirror
abbrev pub wire : List ℕ → Letter
wire atoms = ordinary (among atoms) (among atoms)

-- the letter at which p is x: it does not satisfy p, while its mirror does
abbrev pub p_is_x : Letter
p_is_x = ordinary (among []) (among (p ∷ []))

-- a sequence of one condition, the atom n
abbrev pub is : ℕ → Sequence
is n = condition (atom n)

-- the twelve cases, each a property and the letters with the verdict after each; the last is about two properties
abbrev pub settled_cases : List (Formula × List (Letter × ℕ))
settled_cases =
    (strong (atom p), (wire (p ∷ []), 3) ∷ [])
    ∷ (next (strong (atom p)), (wire [], 1) ∷ (wire (p ∷ []), 3) ∷ [])
    ∷ (weak_sequence (concat (is p) (is q)), (wire (p ∷ []), 2) ∷ (wire [], 0) ∷ [])
    ∷ (strong_sequence (concat (is p) (is q)), (wire (p ∷ []), 1) ∷ (wire (q ∷ []), 3) ∷ [])
    ∷ (weak_sequence (both (concat (is p) (is p)) (is p)), (wire (p ∷ []), 0) ∷ [])
    ∷ (until (strong (atom p)) (strong (atom q)), (wire (p ∷ []), 1) ∷ (wire [], 0) ∷ [])
    ∷ (abort (until (strong (atom p)) (strong (atom q))) (atom s), (wire (p ∷ []), 1) ∷ (wire (s ∷ []), 3) ∷ [])
    ∷ (abort (strong falsity) (atom s), (wire (s ∷ []), 3) ∷ [])
    ∷ (formula_at (strong (atom p)) (atom k), (wire [], 1) ∷ (wire (p ∷ []), 1) ∷ (wire (k ∷ p ∷ []), 3) ∷ [])
    ∷ (implies (concat (is p) (condition truth)) (strong (atom q)), (wire (p ∷ []), 2) ∷ (wire (q ∷ []), 3) ∷ [])
    ∷ (next (strong truth), (bottom, 0) ∷ (wire [], 0) ∷ [])
    ∷ (strong (atom p), (p_is_x, 0) ∷ [])
    ∷ (negated (strong (atom p)), (p_is_x, 0) ∷ [])
    ∷ []

-- once the letters v have come, the property f has these verdicts, each after its letter
abbrev pub HasVerdicts : Formula → List Letter → List (Letter × ℕ) → Type 0
HasVerdicts f v [] = Unit {0}
HasVerdicts f v ((l, n) ∷ later) = Verdict truth f (v ++ (l ∷ [])) n × HasVerdicts f (v ++ (l ∷ [])) later

-- each case has its verdicts, under the clock true
abbrev pub Settled : List (Formula × List (Letter × ℕ)) → Type 0
Settled [] = Unit {0}
Settled ((f, steps) ∷ cases) = HasVerdicts f [] steps × Settled cases

-- how many verdicts the cases settle
abbrev pub verdicts_settled : List (Formula × List (Letter × ℕ)) → ℕ
verdicts_settled [] = 0
verdicts_settled ((f, steps) ∷ cases) = length steps + verdicts_settled cases

-- the theorem of the twelve cases
abbrev pub TwelveSettledCases : Type 0
TwelveSettledCases = Settled settled_cases
