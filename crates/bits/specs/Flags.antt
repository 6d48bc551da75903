-- Flags as the bits of bytes.
use Rattle.std.specs.Prelude.{ℕ, Bool, List}
use Rattle.bits.specs.Words.{in_words}

-- flag n of the bytes; past them no flag is set
abbrev pub flagged : List ℕ → ℕ → Bool
flagged bytes n = in_words 8 bytes n
