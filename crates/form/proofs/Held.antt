-- The entries that a property holds, by their numbers.
use Rattle.std.proofs.Common.{ℕ, ◌<◌, length, get_or, refl}
use Rattle.std.proofs.lemmas.Option.{slice_get-get_or}
use Rattle.psl.specs.declared.entry.Sequence.TheVariants as s
use Rattle.psl.specs.declared.entry.Formula.TheVariants as f
use Rattle.property.specs.declared.place.Property.{Property}
use Rattle.property.specs.Place.{sequences_of, formulas_of}
use Rattle.property.proofs.Held.{sequence_fine, formula_fine}
use Rattle.form.specs.Entries.{SequenceAt, FormulaAt}

pub held_sequence : (p : Property) (i : ℕ) → i < length (sequences_of p) → SequenceAt p i (get_or (sequences_of p) i (s.Condition 0))
held_sequence p i h = record { is = refl; names = sequence_fine p i _ (slice_get-get_or (sequences_of p) i (s.Condition 0) h) }

pub held_formula : (p : Property) (i : ℕ) → i < length (formulas_of p) → FormulaAt p i (get_or (formulas_of p) i (f.Strong 0))
held_formula p i h = record { is = refl; names = formula_fine p i _ (slice_get-get_or (formulas_of p) i (f.Strong 0) h) }
