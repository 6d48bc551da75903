-- Sets of places, and their numbers of members.
use Rattle.std.specs.Prelude.{ℕ, zero, suc, ◌+◌, Bool, true, false}
use Rattle.bits.specs.Words.{in_words}
use Rattle.bits.specs.declared.places.Places.{Places}

-- is the place k in the set
abbrev pub member : Places → ℕ → Bool
member p k = in_words 64 p.words k

-- 1 if the flag is true, 0 if not
abbrev pub one : Bool → ℕ
one true = 1
one false = 0

-- how many numbers below n are in the set
abbrev pub count_below : (ℕ → Bool) → ℕ → ℕ
count_below set zero = 0
count_below set (suc n) = count_below set n + one (set n)
