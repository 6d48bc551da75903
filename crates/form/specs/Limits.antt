-- How many entries a form has, and the questions that are asked of them.
use Rattle.std.specs.Prelude.{ℕ, ◌+◌, ◌*◌, List, [], ◌∷◌, length, nat_le}
use Rattle.answer.specs.Questions.{Question, ◌otherwise◌}
use Rattle.psl.specs.declared.entry.Sequence as entryS
use Rattle.psl.specs.declared.entry.Sequence.TheVariants as s
use Rattle.psl.specs.declared.entry.Formula as entryF
use Rattle.psl.specs.declared.entry.Formula.TheVariants as f
use Rattle.property.specs.declared.place.Property.{Property}
use Rattle.property.specs.Place.{conditions_of, sequences_of, formulas_of}
use Rattle.form.specs.declared.refusal.Refusal.{Refusal}
use Rattle.form.specs.declared.refusal.Refusal.TheVariants.{TooManyConditions, TooManySequences, TooManyFormulas}
use Rattle.form.specs.Pairs.{total, sequence_adds_conditions, sequence_adds_sequences, formula_adds_conditions, formula_adds_formulas}
use Rattle.form.specs.Met.{met}

-- what the met pairs of sequences add in all
abbrev pub sequences_add : (entryS.Sequence → ℕ) → Property → ℕ
sequences_add adds p = total (s.Condition 0) adds (sequences_of p) (met p).sequences (64 * length (sequences_of p))

-- what the met pairs of formulas add in all
abbrev pub formulas_add : (entryF.Formula → ℕ) → Property → ℕ
formulas_add adds p = total (f.Strong 0) adds (formulas_of p) (met p).formulas (64 * length (formulas_of p))

-- the property's conditions, and those that the met pairs add
unfoldable pub conditions_needed : Property → ℕ
conditions_needed p = length (conditions_of p) + (sequences_add sequence_adds_conditions p + formulas_add formula_adds_conditions p)

-- the sequences that the met pairs add
unfoldable pub sequences_needed : Property → ℕ
sequences_needed p = sequences_add sequence_adds_sequences p

-- the formulas that the met pairs add
unfoldable pub formulas_needed : Property → ℕ
formulas_needed p = formulas_add formula_adds_formulas p

-- are there at most 256 conditions, sequences, formulas?
abbrev pub limits : ℕ → ℕ → ℕ → List (Question Refusal)
limits conditions sequences formulas =
    (nat_le conditions 256 otherwise TooManyConditions) ∷ (nat_le sequences 256 otherwise TooManySequences) ∷ (nat_le formulas 256 otherwise TooManyFormulas) ∷ []

-- the questions put to a property whose clocks are to be removed
abbrev pub questions : Property → List (Question Refusal)
questions p = limits (conditions_needed p) (sequences_needed p) (formulas_needed p)
