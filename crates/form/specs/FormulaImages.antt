-- The image of a property's formula under a clock.
use Rattle.std.specs.Prelude.{◌≡◌, ℕ, ◌+◌, ◌*◌, ◌<◌, Bool, List, length, slice_index, slice_index_or}
use Rattle.psl.specs.Syntax.{Formula, falsity}
use Rattle.psl.specs.Removal.{unclock}
use Rattle.psl.specs.Table.{nothing}
use Rattle.psl.specs.declared.entry.Formula as entryF
use Rattle.psl.specs.declared.entry.Formula.TheVariants as f
use Rattle.property.specs.declared.place.Property.{Property}
use Rattle.property.specs.Place.{formulas_of, sequences_of, conditions_of, condition_trees, formula_trees}
use Rattle.form.specs.declared.draft.Draft as code
use Rattle.form.specs.Draft.{conditions_in, sequences_in, formulas_in, FormulaIs, Grows}
use Rattle.form.specs.Pairs.{key, formula_adds_conditions, formula_adds_formulas, total}
use Rattle.form.specs.SequenceImages.{Marked, Carries, SequencesWritten}

-- what clock removal makes of formula i under clock c
abbrev pub formula_image : Property → ℕ → ℕ → Formula
formula_image p i c = unclock (slice_index_or (condition_trees p) c falsity) (slice_index_or (formula_trees p) i nothing)

-- what holds of each pair of a formula (P) or a sequence (R) that is met with a formula under clock c
abbrev pub ForParts : (ℕ → ℕ → Type 0) → (ℕ → ℕ → Type 0) → entryF.Formula → ℕ → Type 0
ForParts P R (f.Strong a) c = Unit {0}
ForParts P R (f.Weak a) c = Unit {0}
ForParts P R (f.StrongSequence a) c = R a c
ForParts P R (f.WeakSequence a) c = R a c
ForParts P R (f.Not a) c = P a c
ForParts P R (f.And a b) c = P a c × P b c
ForParts P R (f.Next a) c = P a c
ForParts P R (f.Until a b) c = P a c × P b c
ForParts P R (f.Abort a b) c = P a c
ForParts P R (f.Implies a b) c = R a c × P b c
ForParts P R (f.At a d) c = P a d

-- the draft has the image of a pair of a formula where the places say
abbrev pub FormulaPlaced : Property → code.Draft → List ℕ → ℕ → ℕ → Type 0
FormulaPlaced p d places i c = FormulaIs d (slice_index places (key i c)) (formula_image p i c)

-- the image of formula i under clock c was added, as number r
pub record WroteFormula (p : Property) (i c : ℕ) (d e : code.Draft) (r : ℕ) : Type 0 where
  pub grows : Grows d e
  pub is : FormulaIs e r (formula_image p i c)
  pub count_c : length (conditions_in e) ≡ length (conditions_in d) + formula_adds_conditions (slice_index_or (formulas_of p) i (f.Strong 0))
  pub count_s : length (sequences_in e) ≡ length (sequences_in d)
  pub count_f : length (formulas_in e) ≡ length (formulas_in d) + formula_adds_formulas (slice_index_or (formulas_of p) i (f.Strong 0))

-- with each marked pair of a formula, those of its parts are marked, and its clock is a condition
abbrev pub FormulasClosed : Property → List Bool → List Bool → Type 0
FormulasClosed p fm sm =
    (i c : ℕ) → i < length (formulas_of p) → c < 64 → Marked fm i c
    → (c < length (conditions_of p)) × ForParts (Marked fm) (Marked sm) (slice_index_or (formulas_of p) i (f.Strong 0)) c

-- each marked pair of a formula below key n has its image
abbrev pub FormulasWritten : Property → List Bool → code.Draft → List ℕ → ℕ → Type 0
FormulasWritten p met d places n = (i c : ℕ) → c < 64 → key i c < n → Marked met i c → FormulaPlaced p d places i c

-- what stands after the pairs of formulas below key k were written
abbrev pub FormulasStand : Property → List Bool → List Bool → code.Draft → code.Draft → List ℕ → List ℕ → ℕ → Type 0
FormulasStand p fm sm d₀ d sp places k =
    Grows d₀ d × Carries p d × FormulasWritten p fm d places k
    × (length (conditions_in d) ≡ length (conditions_in d₀) + total (f.Strong 0) formula_adds_conditions (formulas_of p) fm k)
    × (length (formulas_in d) ≡ length (formulas_in d₀) + total (f.Strong 0) formula_adds_formulas (formulas_of p) fm k)
    × SequencesWritten p sm d sp (64 * length (sequences_of p)) × (length (sequences_in d) ≡ length (sequences_in d₀))
