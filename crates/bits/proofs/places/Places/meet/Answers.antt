use Rattle.std.proofs.Common.{◌&&◌, refl, rules, arith}
use lib.Bits.{bit_and}
use Rattle.bits.proofs.Bitwise.{bit-bit_and}
use Rattle.bits.proofs.Sets.{in_each, made_by_each}
use Rattle.bits.proofs.places.Places.meet.Goals as goal

pub returns : goal.returns
returns c = record {
  items = in_each 64 bit_and ◌&&◌ bit-bit_and refl _ _ _ 9 (omega arith) (omega arith)
      (made_by_each bit_and _ _ _ (omega arith) (omega (arith, c.combine.ensures.len)) (λ k h. let made = c.combine.ensures.made k h in search rules));
}
