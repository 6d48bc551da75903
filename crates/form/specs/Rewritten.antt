-- What clock removal makes of a whole property.
use Rattle.std.specs.Prelude.{◌≡◌, ℕ, ◌-◌, ◌≤◌, length}
use Rattle.std.proofs.Math.Option.{none}
use Rattle.answer.specs.Questions.{first_no}
use Rattle.property.specs.declared.place.Property.{Property}
use Rattle.property.specs.Place.{formulas_of}
use Rattle.form.specs.declared.draft.Draft as code
use Rattle.form.specs.Draft.{conditions_in, sequences_in, formulas_in, FormulaIs}
use Rattle.form.specs.FormulaImages.{formula_image}
use Rattle.form.specs.Limits.{conditions_needed, sequences_needed, formulas_needed, questions}

-- there is room for all that the property needs
pub record RoomFor (p : Property) : Type 0 where
  pub conditions : conditions_needed p ≤ 256
  pub sequences : sequences_needed p ≤ 256
  pub formulas : formulas_needed p ≤ 256

-- the draft has exactly what the property needs, and its root is the property's image under condition 0
pub record Rewritten (p : Property) (d : code.Draft) (root : ℕ) : Type 0 where
  pub count_c : length (conditions_in d) ≡ conditions_needed p
  pub count_s : length (sequences_in d) ≡ sequences_needed p
  pub count_f : length (formulas_in d) ≡ formulas_needed p
  pub is : FormulaIs d root (formula_image p (length (formulas_of p) - 1) 0)

-- there is no no to the questions, and the property is rewritten
pub record Rewrites (p : Property) (d : code.Draft) (root : ℕ) : Type 0 where
  pub no_no : first_no (questions p) ≡ none
  pub rewritten : Rewritten p d root
