-- The rows of a table that are in use.
use Rattle.std.specs.Prelude.{ℕ, List, take}
use Rattle.table.specs.declared.table.Table.{Table}

-- the rows in use, in order
abbrev pub rows_of : {E : Type 0} {N : ℕ} → Table E N → List E
rows_of t = take t.count t.rows
