use Rattle.std.proofs.Common.{refl}
use Rattle.file.specs.Sizes.{sizes}
use Rattle.file.specs.Accepted.{accepted}
use Rattle.property.proofs.place.Property.new.Goals as goal

pub invariant_of-result : goal.invariant_of-result
unfolding accepted sizes
invariant_of-result c = record {
  accepts = rw (c.of.ensures.items, c.new.ensures.items, c.of-2.ensures.items) refl;
  measured = rw (c.new.ensures.items, c.new-2.ensures.items) refl;
}
