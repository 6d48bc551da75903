-- What the rows of the flat record mean.
use Rattle.std.specs.Prelude.{ℕ, min, Bool, List, length, take, nat_lt}
use Rattle.letter.specs.declared.full.Full.{Full}
use Rattle.record.specs.Recorded.{Recorded}

-- one more fits if there are more rows than letters; rows after the first 512 are not used
abbrev pub row_free : {X : Type 0} → ℕ → List X → X → Bool
row_free rows letters x = nat_lt (length letters) (min 512 rows)

-- the letters in the first `count` rows, cut to the rows there are and to 512
abbrev pub flat_content : {L : Type 0} → ℕ → List (Full L) → Recorded (Full L)
flat_content count rows = record { letters = take (min count 512) rows; fits = row_free (length rows) }
