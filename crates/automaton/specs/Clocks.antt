-- The clock in force, and the letter at a place of a truth table.
use Rattle.std.specs.Prelude.{ℕ, List, Option, None, Some}
use Rattle.psl.specs.Syntax.{atom}
use Rattle.psl.specs.Letter.{Letter}
use Rattle.psl.specs.OptionalClock.{Clock, free, on}
use Rattle.truth.specs.Rows.{row_at, letter_of}
use Rattle.automaton.specs.declared.word.Letter as code

-- none, or the condition of that name
abbrev pub clock_of : Option ℕ → Clock
clock_of None = free
clock_of (Some c) = on (atom c)

-- the letter at the place
abbrev pub letter_at : List ℕ → List ℕ → ℕ → Letter
letter_at own other place = letter_of (row_at own place) (row_at other place)

-- the letter that has these rows
abbrev pub letter_in : code.Letter → Letter
letter_in l = letter_of l.own.now l.other.now
