-- What an ordinary letter of a kind means.
use Rattle.std.specs.Prelude.{ℕ, Bool}
use Rattle.psl.specs.Letter.{Letter, ordinary}

-- the atoms that the letter satisfies, and those that its mirror satisfies
abbrev pub meaning : {L : Type 0} → (L → ℕ → Bool) → (L → L) → L → Letter
meaning atoms mirrored l = ordinary (atoms l) (atoms (mirrored l))
