-- What is asked of judging and counting, and what their answers are.
use Rattle.std.specs.Prelude.{List, [], ◌∷◌, ℕ, leb, ltb, length, get_or}
use Rattle.answer.specs.Questions.{Question, ◌otherwise◌}
use Rattle.psl.specs.Syntax.{Condition, falsity, empty}
use Rattle.psl.specs.Letter.{Letter}
use Rattle.psl.specs.Verdict as psl
use Rattle.property.specs.declared.place.Property.{Property}
use Rattle.property.specs.Place.{condition_trees, sequence_trees, sequences_of, property_tree}
use Rattle.form.specs.declared.place.Form.{Form}
use Rattle.form.specs.Place.{form_tree}
use Rattle.verdict.specs.declared.refusal.Refusal.{Refusal}
use Rattle.verdict.specs.declared.refusal.Refusal.TheVariants.{WorkArea, NoSequence}
use Rattle.verdict.specs.declared.verdict.Verdict.{Verdict}
use Rattle.verdict.specs.Counting.{MatchCounts}
use Rattle.verdict.specs.Verdicts.{digit_of}

-- the clock under which a property starts: its condition 0
abbrev pub base_clock : Property → Condition
base_clock p = get_or (condition_trees p) 0 falsity

-- v is the clocked verdict of the property on the letters
abbrev pub PropertyVerdict : Property → List Letter → Verdict → Type 0
PropertyVerdict p letters v = psl.Verdict (base_clock p) (property_tree p) letters (digit_of v)

-- v is the verdict of the form on the letters, by the unclocked meaning
abbrev pub FormVerdict : Form → List Letter → Verdict → Type 0
FormVerdict f letters v = psl.ClockFreeVerdict (form_tree f) letters (digit_of v)

-- the two numbers are those of the matches of sequence i under condition 0, and of the places where they end
abbrev pub SequenceCounts : Property → ℕ → List Letter → ℕ → ℕ → Type 0
SequenceCounts p i letters matches ends = MatchCounts (base_clock p) (get_or (sequence_trees p) i empty) letters matches ends

-- the question put to a verdict: has the work area at least 65,536 bytes?
abbrev pub verdict_questions : ℕ → List (Question Refusal)
verdict_questions room = (leb 65536 room otherwise WorkArea) ∷ []

-- the questions put to a match count: that one, and then: does the sequence exist?
abbrev pub count_questions : ℕ → Property → ℕ → List (Question Refusal)
count_questions room p i = (leb 65536 room otherwise WorkArea) ∷ ((ltb i (length (sequences_of p)) otherwise NoSequence) ∷ [])
