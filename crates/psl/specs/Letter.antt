-- Letters and the conditions that they satisfy.
use Rattle.std.specs.Prelude.{ℕ, Bool, true, false, not, ◌&&◌}
use Rattle.psl.specs.Syntax.{Condition, truth, falsity, atom, negation, conjunction}

-- top, bottom, or an ordinary letter: the atoms that it satisfies (own) and those that its mirror satisfies (other)
pub data Letter : Type 0 where
  top bottom : Letter
  ordinary : (ℕ → Bool) → (ℕ → Bool) → Letter

-- the mirror swaps top and bottom, and what an ordinary letter satisfies with what its mirror satisfies
abbrev pub mirror : Letter → Letter
mirror top = bottom
mirror bottom = top
mirror (ordinary own other) = ordinary other own

-- whether a letter satisfies a condition: top all, bottom none; "not b" when the mirror does not satisfy b
abbrev pub satisfies : Letter → Condition → Bool
satisfies top b = true
satisfies bottom b = false
satisfies (ordinary own other) truth = true
satisfies (ordinary own other) falsity = false
satisfies (ordinary own other) (atom n) = own n
satisfies (ordinary own other) (negation b) = not (satisfies (mirror (ordinary own other)) b)
satisfies (ordinary own other) (conjunction b c) = satisfies (ordinary own other) b && satisfies (ordinary own other) c
