use Rattle.std.proofs.Common.{not, ◌&&◌, refl, rules, arith}
use lib.Bits.{bit_and, bit_xor}
use Rattle.bits.proofs.Bitwise.{bit_less}
use Rattle.bits.proofs.Sets.{in_each, made_by_each}
use Rattle.bits.proofs.places.Places.remove.Goals as goal

pub returns : goal.returns
returns c = record {
  items =
      in_each 64 (λ a b. bit_xor a (bit_and a b)) (λ x y. x && not y) bit_less refl _ _ _ 9 (omega arith) (omega arith)
      (made_by_each (λ a b. bit_xor a (bit_and a b)) _ _ _ (omega arith) (omega (arith, c.combine.ensures.len)) (λ k h. let made = c.combine.ensures.made k h in search rules));
}
