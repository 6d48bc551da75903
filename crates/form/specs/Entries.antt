-- Entry i of a property's section, and what is known of it.
use Rattle.std.specs.Prelude.{◌≡◌, ℕ, true, length, slice_index_or}
use Rattle.psl.specs.declared.entry.Sequence as entryS
use Rattle.psl.specs.declared.entry.Sequence.TheVariants as s
use Rattle.psl.specs.declared.entry.Formula as entryF
use Rattle.psl.specs.declared.entry.Formula.TheVariants as f
use Rattle.file.specs.Operands.{sequence_names, formula_names}
use Rattle.property.specs.declared.place.Property.{Property}
use Rattle.property.specs.Place.{conditions_of, sequences_of, formulas_of}

-- e is sequence i, and names what it may
pub record SequenceAt (p : Property) (i : ℕ) (e : entryS.Sequence) : Type 0 where
  pub is : e ≡ slice_index_or (sequences_of p) i (s.Condition 0)
  pub names : sequence_names (length (conditions_of p)) i e ≡ true

-- e is formula i, and names what it may
pub record FormulaAt (p : Property) (i : ℕ) (e : entryF.Formula) : Type 0 where
  pub is : e ≡ slice_index_or (formulas_of p) i (f.Strong 0)
  pub names : formula_names (length (conditions_of p)) (length (sequences_of p)) i e ≡ true
