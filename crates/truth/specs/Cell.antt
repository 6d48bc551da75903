-- One flag of a row, worked out from those of lower conditions.
use Rattle.std.specs.Prelude.{ℕ, Bool, not, ◌&&◌, List}
use Rattle.psl.specs.Letter.{Letter, satisfies}
use Rattle.psl.specs.Syntax.{truth, falsity, atom}
use Rattle.psl.specs.declared.entry.Condition as entry
use Rattle.psl.specs.declared.entry.Condition.TheVariants as c
use Rattle.truth.specs.Rows.{tells}

-- the flag of an entry at the letter l, whose row is `own` and whose mirror's row is `other`
abbrev pub worked : Letter → List ℕ → List ℕ → entry.Condition → Bool
worked l own other c.True = satisfies l truth
worked l own other c.False = satisfies l falsity
worked l own other (c.Atom n) = satisfies l (atom n)
worked l own other (c.Not a) = not (tells other a)
worked l own other (c.And a b) = tells own a && tells own b
