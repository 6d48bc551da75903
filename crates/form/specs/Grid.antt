-- The values for the pairs of an entry and a clock, by their keys.
use Rattle.std.specs.Prelude.{List}
use Rattle.form.specs.declared.grid.Grid.{Grid}
use Rattle.form.specs.declared.grid.Marks as code
use Rattle.form.specs.Met.{Marks, marks}

-- the values in the order of the keys
abbrev pub cells_of : {T : Type 0} → Grid T → List T
cells_of g = g.cells

-- the marks of formulas' pairs and of sequences' pairs
abbrev pub marks_of : code.Marks → Marks
marks_of m = marks (cells_of m.formulas) (cells_of m.sequences)
