use Rattle.bits.proofs.Sets.{in_zeros}
use Rattle.bits.proofs.places.Places.none.Goals as goal

pub returns : goal.returns
returns c = record { items = in_zeros 64 9 }
