-- Why clocks are not removed: a table of the form would be too long.
use Rattle.std.specs.Prelude.{ℕ}
use Rattle.form.specs.declared.refusal.Refusal.{Refusal}
use Rattle.form.specs.declared.refusal.Refusal.TheVariants.{TooManyConditions, TooManySequences, TooManyFormulas}

-- the number of the question that got a no
abbrev pub refusal_number : Refusal → ℕ
refusal_number TooManyConditions = 31
refusal_number TooManySequences = 32
refusal_number TooManyFormulas = 33
