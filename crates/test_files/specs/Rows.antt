-- How rows are written into a file.
use Rattle.std.specs.Prelude.{ℕ, ◌%◌, List, ◌++◌, length, flat_map}
use Rattle.std.specs.Int.{w16, to_be_bytes}

-- the number of rows in two bytes, the most significant first, and then the rows
abbrev pub section_of : List (List ℕ) → List ℕ
section_of rows = to_be_bytes w16 (length rows % 65536) ++ flat_map (λ row. row) rows
