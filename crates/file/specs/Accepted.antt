-- The tables of an accepted property.
use Rattle.std.specs.Prelude.{◌≡◌, ℕ, Bool, true, ◌&&◌, List, [], ◌∷◌, ◌++◌, length, Ok, Err, Result, nat_le}
use Rattle.std.proofs.Math.Option.{none, some}
use Rattle.answer.specs.Questions.{Question, ◌otherwise◌, first_no}
use Rattle.psl.specs.declared.entry.Condition.{Condition}
use Rattle.psl.specs.declared.entry.Sequence.{Sequence}
use Rattle.psl.specs.declared.entry.Formula.{Formula}
use Rattle.table.specs.Rows.{rows_of}
use Rattle.file.specs.declared.refusal.Refusal.{Refusal}
use Rattle.file.specs.declared.tables.Tables.{Tables}
use Rattle.file.specs.Rules.{Rules, condition_rules, sequence_rules, formula_rules}
use Rattle.file.specs.Sizes.{sizes}
use Rattle.file.specs.File.{conditions_in, sequences_in, formulas_in, questions}

-- no question is answered no
abbrev pub all_yes : {R : Type 0} → List (Question R) → Bool
all_yes [] = true
all_yes ((b otherwise r) ∷ qs) = b && all_yes qs

-- each entry gets a yes to all that its section asks, after the entries before it
abbrev pub inspected : {E : Type 0} → Rules E → List E → List E → Bool
inspected rules before [] = true
inspected rules before (e ∷ es) = all_yes (rules.about before e) && inspected rules (before ++ (e ∷ [])) es

-- the entries in use
abbrev pub conditions_used : Tables → List Condition
conditions_used t = rows_of t.conditions

abbrev pub sequences_used : Tables → List Sequence
sequences_used t = rows_of t.sequences

abbrev pub formulas_used : Tables → List Formula
formulas_used t = rows_of t.formulas

-- the counts lie within their limits
abbrev pub within_limits : Tables → Bool
within_limits t =
    (nat_le 1 (length (conditions_used t)) && nat_le (length (conditions_used t)) 64)
    && (nat_le (length (sequences_used t)) 64 && (nat_le 1 (length (formulas_used t)) && nat_le (length (formulas_used t)) 64))

-- the tables are those of an accepted property
unfoldable pub accepted : Tables → Bool
accepted t =
    within_limits t
    && (inspected condition_rules [] (conditions_used t)
    && (inspected (sequence_rules (length (conditions_used t))) [] (sequences_used t)
    && inspected (formula_rules (length (conditions_used t)) (length (sequences_used t))) [] (formulas_used t)))

-- the sizes beside the sequences are theirs
abbrev pub Measured : Tables → Type 0
Measured t = rows_of t.sizes ≡ sizes (sequences_used t)

-- a section was read into a table, which holds es: no no to its questions, it spells these n entries, and each gets only yes
pub record SectionRead {E : Type 0} (asked : List (Question Refusal)) (rules : Rules E) (spells es : List E) (n : ℕ) : Type 0 where
  pub no_no : first_no asked ≡ none
  pub counted : length es ≡ n
  pub holds : es ≡ spells
  pub fine : inspected rules [] es ≡ true

-- the tables hold the entries that the file spells, and are those of an accepted property
pub record Spelled (bytes : List ℕ) (t : Tables) : Type 0 where
  pub conditions : conditions_used t ≡ conditions_in bytes
  pub sequences : sequences_used t ≡ sequences_in bytes
  pub formulas : formulas_used t ≡ formulas_in bytes
  pub accepts : accepted t ≡ true
  pub measured : Measured t

-- no no to the file and its tables, or the first no
abbrev pub Reads : List ℕ → Result Tables Refusal → Type 0
Reads bytes (Ok t) = (first_no (questions bytes) ≡ none) × Spelled bytes t
Reads bytes (Err r) = first_no (questions bytes) ≡ some r
