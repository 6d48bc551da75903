use Rattle.std.proofs.Common.{◌&&◌, ltb, sym, ap, ◌∙◌}
use mathlib.Core.Bool.{and-true}
use Rattle.bits.proofs.Bitwise.{bit_lowest}
use Rattle.bits.proofs.flags.uniform.Goals as goal

pub returns-then-flag : goal.returns-then-flag
returns-then-flag c = record { items = λ k. bit_lowest 8 k ∙ sym (ap (λ b. ltb k 8 && b) c.if-flag.true ∙ and-true (ltb k 8)) }
