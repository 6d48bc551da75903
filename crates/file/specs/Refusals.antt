-- Why a property file is refused: the number of each reason and of each section, and how a refusal is written.
use Rattle.std.specs.Prelude.{ℕ, List, ◌++◌, codes, decimal}
use Rattle.file.specs.declared.refusal.Refusal.{Refusal}
use Rattle.file.specs.declared.refusal.Reason.{Reason}
use Rattle.file.specs.declared.refusal.Reason.TheVariants.{CountCutShort, CountOutsideLimits, EntriesCutShort, BytesLeftOver, KindNotListed, OperandNamesNothing, FirstNotTrue, SequenceTooLarge}
use Rattle.file.specs.declared.refusal.Section.{Section}
use Rattle.file.specs.declared.refusal.Section.TheVariants.{Conditions, Sequences, Formulas}

-- the number of the question that got a no
abbrev pub reason_number : Reason → ℕ
reason_number CountCutShort = 1
reason_number CountOutsideLimits = 2
reason_number EntriesCutShort = 3
reason_number BytesLeftOver = 4
reason_number KindNotListed = 5
reason_number OperandNamesNothing = 6
reason_number FirstNotTrue = 7
reason_number SequenceTooLarge = 8

-- the place of a section in the file, from 1
abbrev pub section_number : Section → ℕ
section_number Conditions = 1
section_number Sequences = 2
section_number Formulas = 3

-- three numbers with spaces between
abbrev pub numbers_text : ℕ → ℕ → ℕ → List ℕ
numbers_text n s o = decimal n ++ (codes " " ++ (decimal s ++ (codes " " ++ decimal o)))

-- a refusal is written as its number, its section's and its offset
abbrev pub refusal_text : Refusal → List ℕ
refusal_text r = numbers_text (reason_number r.reason) (section_number r.section) r.offset

-- the least number of entries of a section
abbrev pub least_count : Section → ℕ
least_count Conditions = 1
least_count Sequences = 0
least_count Formulas = 1
