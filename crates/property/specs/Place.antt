-- What a property place holds: the entries of an accepted property.
use Rattle.std.specs.Prelude.{◌≡◌, ℕ, ◌-◌, List, length, slice_index_or}
use Rattle.psl.specs.Syntax as tree
use Rattle.psl.specs.Table.{conditions, sequences, formulas, nothing}
use Rattle.psl.specs.declared.entry.Condition.{Condition}
use Rattle.psl.specs.declared.entry.Sequence.{Sequence}
use Rattle.psl.specs.declared.entry.Formula.{Formula}
use Rattle.property.specs.declared.place.Property.{Property}
use Rattle.file.specs.Accepted.{conditions_used, sequences_used, formulas_used}
use Rattle.file.specs.File.{conditions_in, sequences_in, formulas_in}

unfoldable pub conditions_of : Property → List Condition
conditions_of p = conditions_used p.tables

unfoldable pub sequences_of : Property → List Sequence
sequences_of p = sequences_used p.tables

unfoldable pub formulas_of : Property → List Formula
formulas_of p = formulas_used p.tables

-- the trees that the entries denote
unfoldable pub condition_trees : Property → List tree.Condition
condition_trees p = conditions (conditions_of p)

unfoldable pub sequence_trees : Property → List tree.Sequence
sequence_trees p = sequences (condition_trees p) (sequences_of p)

unfoldable pub formula_trees : Property → List tree.Formula
formula_trees p = formulas (condition_trees p) (sequence_trees p) (formulas_of p)

-- the property itself: the tree of the last formula
unfoldable pub property_tree : Property → tree.Formula
property_tree p = slice_index_or (formula_trees p) (length (formulas_of p) - 1) nothing

-- the place holds the property that the file spells
pub record HoldsFile (bytes : List ℕ) (p : Property) : Type 0 where
  pub conditions : conditions_of p ≡ conditions_in bytes
  pub sequences : sequences_of p ≡ sequences_in bytes
  pub formulas : formulas_of p ≡ formulas_in bytes
