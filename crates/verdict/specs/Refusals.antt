-- The refusals of judging and counting, by number.
use Rattle.std.specs.Prelude.{ℕ}
use Rattle.verdict.specs.declared.refusal.Refusal.{Refusal}
use Rattle.verdict.specs.declared.refusal.Refusal.TheVariants.{WorkArea, NoSequence}

abbrev pub number_of : Refusal → ℕ
number_of WorkArea = 24
number_of NoSequence = 25
