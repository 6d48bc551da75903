-- The values of a wire in a simulation.
use Rattle.std.specs.Prelude.{ℕ, Bool, true, false}
use Rattle.bits.specs.Words.{bit}
use Rattle.letter.specs.declared.value.Value.{Value}
use Rattle.letter.specs.declared.value.Value.TheVariants.{Zero, One, X, Y}

-- whether a wire with this value satisfies its atom
abbrev pub satisfied : Value → Bool
satisfied Zero = false
satisfied One = true
satisfied X = false
satisfied Y = true

-- the value in the mirror: x and y trade places
abbrev pub swapped : Value → Value
swapped Zero = Zero
swapped One = One
swapped X = Y
swapped Y = X

-- the value that satisfies the atom, and whose mirror does, as the two flags say
abbrev pub value_by : Bool → Bool → Value
value_by false false = Zero
value_by true true = One
value_by false true = X
value_by true false = Y

-- the value of wire n, where the bits of `own` and `other` are the atoms that a letter and its mirror satisfy
abbrev pub value_at : ℕ → ℕ → ℕ → Value
value_at own other n = value_by (bit own n) (bit other n)
