-- What a form place is asked about: its entries, its tree, and the property that it was made from.
use Rattle.std.specs.Prelude.{◌≡◌, ℕ, ◌⊎◌, ◌↔◌, List, length, slice_index_or}
use Rattle.psl.specs.Syntax as tree
use Rattle.psl.specs.Syntax.{truth, weak}
use Rattle.psl.specs.Word.{Word}
use Rattle.psl.specs.Unclocked.{UnclockedSatisfies}
use Rattle.psl.specs.Table.{conditions, sequences, formulas, nothing}
use Rattle.psl.specs.declared.entry.Condition.{Condition}
use Rattle.psl.specs.declared.entry.Sequence.{Sequence}
use Rattle.psl.specs.declared.entry.Formula.{Formula}
use Rattle.property.specs.declared.place.Property.{Property}
use Rattle.form.specs.declared.place.Form.{Form}
use Rattle.form.specs.Draft.{conditions_in, sequences_in, formulas_in}
use Rattle.form.specs.Limits.{conditions_needed, sequences_needed, formulas_needed}
use Rattle.form.specs.Made.{rewriting}

-- the form's conditions
unfoldable pub form_conditions : Form → List Condition
form_conditions f = conditions_in f.rooted.draft

-- the form's sequences
unfoldable pub form_sequences : Form → List Sequence
form_sequences f = sequences_in f.rooted.draft

-- the form's formulas
unfoldable pub form_formulas : Form → List Formula
form_formulas f = formulas_in f.rooted.draft

-- the number of the formula that the form is
unfoldable pub form_root : Form → ℕ
form_root f = f.rooted.root

-- the property that the form was made from
unfoldable pub source : Form → Property
source f = f.property

-- the tree that a table's formula denotes
abbrev pub tree_at : List Condition → List Sequence → List Formula → ℕ → tree.Formula
tree_at cs rs fs k = slice_index_or (formulas (conditions cs) (sequences (conditions cs) rs) fs) k nothing

-- the form itself: the tree of its root
unfoldable pub form_tree : Form → tree.Formula
form_tree f = tree_at (form_conditions f) (form_sequences f) (form_formulas f) (form_root f)

-- the form was made from the property p: it is its rewriting, and the numbers of entries are the counts
pub record MadeFrom (p : Property) (f : Form) : Type 0 where
  pub source : source f ≡ p
  pub tree : form_tree f ≡ rewriting p
  pub conditions : length (form_conditions f) ≡ conditions_needed p
  pub sequences : length (form_sequences f) ≡ sequences_needed p
  pub formulas : length (form_formulas f) ≡ formulas_needed p

-- the form is the rewriting of its source, or it is the new form, the weak condition true
abbrev pub Stands : Form → Type 0
Stands f = MadeFrom (source f) f ⊎ (form_tree f ≡ weak truth)

-- on every word the form says what the rewriting of its source says
abbrev pub Agrees : Form → Type 0
Agrees f = (w : Word) → UnclockedSatisfies (form_tree f) w ↔ UnclockedSatisfies (rewriting (source f)) w
