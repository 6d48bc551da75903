-- The truth table of a record: what its rows of flags tell.
use Rattle.std.specs.Prelude.{ℕ, zero, suc, ◌*◌, min, Bool, List, [], ◌∷◌, take, drop, slice_index_or}
use Rattle.bits.specs.Flags.{flagged}
use Rattle.psl.specs.Letter.{Letter, ordinary}
use Rattle.psl.specs.Syntax.{Condition, falsity}
use Rattle.psl.specs.Table.{conditions}
use Rattle.psl.specs.declared.entry.Condition as entry

-- the row of place k: 33 bytes
abbrev pub row_at : List ℕ → ℕ → List ℕ
row_at bytes k = take 33 (drop (k * 33) bytes)

-- what a row tells of the name n: there are at most 256 conditions, and flag 256 tells of all other names
abbrev pub tells : List ℕ → ℕ → Bool
tells row n = flagged row (min n 256)

-- the letter whose atoms are the names that its own row tells of, and its mirror's the names that the other row tells of
abbrev pub letter_of : List ℕ → List ℕ → Letter
letter_of own other = ordinary (tells own) (tells other)

-- the letters of n places from place k on
abbrev pub word : List ℕ → List ℕ → ℕ → ℕ → List Letter
word own other k zero = []
word own other k (suc n) = letter_of (row_at own k) (row_at other k) ∷ word own other (suc k) n

-- the condition that the name n stands for: falsity from the number of conditions on
abbrev pub named : List entry.Condition → ℕ → Condition
named entries n = slice_index_or (conditions entries) n falsity
