-- The refusals of a record, by number.
use Rattle.std.specs.Prelude.{ℕ}
use Rattle.record.specs.declared.refusal.Refusal.{Refusal}
use Rattle.record.specs.declared.refusal.Refusal.TheVariants.{DoesNotFit, NoPlace}

abbrev pub number_of : Refusal → ℕ
number_of DoesNotFit = 22
number_of NoPlace = 26
