-- A form in the making: its tables, what its entries are, and how it grows.
use Rattle.std.specs.Prelude.{◌≡◌, ℕ, ◌+◌, ◌<◌, ◌≤◌, List, ◌++◌, length, get_or, slice_index_or}
use Rattle.psl.specs.Syntax.{Condition, Sequence, Formula, falsity, empty, strong, conjoined}
use Rattle.psl.specs.Removal.{after_waiting}
use Rattle.psl.specs.Table.{condition_of, conditions, sequence_of, sequences, formula_of, formulas, nothing}
use Rattle.psl.specs.declared.entry.Condition as entryC
use Rattle.psl.specs.declared.entry.Sequence as entryS
use Rattle.psl.specs.declared.entry.Formula as entryF
use Rattle.table.specs.Rows.{rows_of}
use Rattle.form.specs.declared.draft.Draft as code

-- f at the first tick of c
abbrev pub on_tick_of : Condition → Formula → Formula
on_tick_of c f = after_waiting c (conjoined (strong c) f)

-- the conditions that a draft has
abbrev pub conditions_in : code.Draft → List entryC.Condition
conditions_in d = rows_of d.conditions

-- the sequences that a draft has
abbrev pub sequences_in : code.Draft → List entryS.Sequence
sequences_in d = rows_of d.sequences

-- the formulas that a draft has
abbrev pub formulas_in : code.Draft → List entryF.Formula
formulas_in d = rows_of d.formulas

-- condition entry k is the tree t
pub record ConditionIs (d : code.Draft) (k : ℕ) (t : Condition) : Type 0 where
  pub there : k < length (conditions_in d)
  pub is : get_or (conditions (conditions_in d)) k falsity ≡ t

-- sequence entry k is the tree t
pub record SequenceIs (d : code.Draft) (k : ℕ) (t : Sequence) : Type 0 where
  pub there : k < length (sequences_in d)
  pub is : get_or (sequences (conditions (conditions_in d)) (sequences_in d)) k empty ≡ t

-- formula entry k is the tree t
pub record FormulaIs (d : code.Draft) (k : ℕ) (t : Formula) : Type 0 where
  pub there : k < length (formulas_in d)
  pub is : get_or (formulas (conditions (conditions_in d)) (sequences (conditions (conditions_in d)) (sequences_in d)) (formulas_in d)) k nothing ≡ t

-- entries were added at the ends
pub record Grows (d e : code.Draft) : Type 0 where
  pub cs : List entryC.Condition
  pub rs : List entryS.Sequence
  pub conditions : conditions_in e ≡ conditions_in d ++ cs
  pub sequences : sequences_in e ≡ sequences_in d ++ rs
  pub fs : List entryF.Formula
  pub formulas : formulas_in e ≡ formulas_in d ++ fs

-- a condition entry was added, as number r
pub record AddedCondition (d e : code.Draft) (x : entryC.Condition) (r : ℕ) : Type 0 where
  pub grows : Grows d e
  pub is : ConditionIs e r (condition_of (conditions (conditions_in d)) x)
  pub count_c : length (conditions_in e) ≡ length (conditions_in d) + 1
  pub count_s : length (sequences_in e) ≡ length (sequences_in d)
  pub count_f : length (formulas_in e) ≡ length (formulas_in d)

-- a sequence entry was added, as number r
pub record AddedSequence (d e : code.Draft) (x : entryS.Sequence) (r : ℕ) : Type 0 where
  pub grows : Grows d e
  pub is : SequenceIs e r (sequence_of (conditions (conditions_in d)) (sequences (conditions (conditions_in d)) (sequences_in d)) x)
  pub count_c : length (conditions_in e) ≡ length (conditions_in d)
  pub count_s : length (sequences_in e) ≡ length (sequences_in d) + 1
  pub count_f : length (formulas_in e) ≡ length (formulas_in d)

-- a formula entry was added, as number r
pub record AddedFormula (d e : code.Draft) (x : entryF.Formula) (r : ℕ) : Type 0 where
  pub grows : Grows d e
  pub is : FormulaIs e r (formula_of (conditions (conditions_in d)) (sequences (conditions (conditions_in d)) (sequences_in d)) (formulas (conditions (conditions_in d)) (sequences (conditions (conditions_in d)) (sequences_in d)) (formulas_in d)) x)
  pub count_c : length (conditions_in e) ≡ length (conditions_in d)
  pub count_s : length (sequences_in e) ≡ length (sequences_in d)
  pub count_f : length (formulas_in e) ≡ length (formulas_in d) + 1

-- formula t was added, as number r, with nc conditions and nf formulas in all
pub record Built (d e : code.Draft) (t : Formula) (r nc nf : ℕ) : Type 0 where
  pub grows : Grows d e
  pub is : FormulaIs e r t
  pub count_c : length (conditions_in e) ≡ length (conditions_in d) + nc
  pub count_s : length (sequences_in e) ≡ length (sequences_in d)
  pub count_f : length (formulas_in e) ≡ length (formulas_in d) + nf

-- the tree of condition k
abbrev pub condition_in : code.Draft → ℕ → Condition
condition_in d k = slice_index_or (conditions (conditions_in d)) k falsity

-- the tree of formula k
abbrev pub formula_in : code.Draft → ℕ → Formula
formula_in d k = slice_index_or (formulas (conditions (conditions_in d)) (sequences (conditions (conditions_in d)) (sequences_in d)) (formulas_in d)) k nothing

-- there is room for nc conditions and nf formulas
abbrev pub Room : code.Draft → ℕ → ℕ → Type 0
Room d nc nf = (length (conditions_in d) + nc ≤ 256) × (length (formulas_in d) + nf ≤ 256)
