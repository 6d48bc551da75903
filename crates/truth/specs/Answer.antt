-- What reading a record into a truth table answers.
use Rattle.std.specs.Prelude.{◌≡◌, ℕ, ◌≤◌, List, length, Some, None, Option}
use Rattle.psl.specs.Letter.{Letter}
use Rattle.psl.specs.Named.{Likes}
use Rattle.psl.specs.Syntax.{atom}
use Rattle.psl.specs.declared.entry.Condition as entry
use Rattle.truth.specs.Rows.{word, named}

-- there are at most 256 conditions, and a row for each of 512 letters in both tables
pub record Room (entries : List entry.Condition) (own other : List ℕ) : Type 0 where
  pub few : length entries ≤ 256
  pub room : 16896 ≤ length own
  pub room_other : 16896 ≤ length other

-- the first n rows tell of every name what the n letters and their mirrors satisfy
pub record Told (entries : List entry.Condition) (letters : List Letter) (own other : List ℕ) (n : ℕ) : Type 0 where
  pub fits : Room entries own other
  pub count : n ≡ length letters
  pub most : n ≤ 512
  pub likes : Likes atom (named entries) (word own other 0 n) letters

-- the answer: none if there is no room, else the number of letters
abbrev pub Read : List entry.Condition → List Letter → List ℕ → List ℕ → Option ℕ → Type 0
Read entries letters own other None = Room entries own other → ⊥
Read entries letters own other (Some n) = Told entries letters own other n
