use Rattle.std.proofs.Common.{sym, ◌∙◌, arith}
use Rattle.std.proofs.lemmas.Bool.{le-ltb}
use Rattle.bits.proofs.Bitwise.{bit_high}
use Rattle.bits.proofs.word.has.Goals as goal

pub returns-else-n-lt64 : goal.returns-else-n-lt64
returns-else-n-lt64 c = record { value = le-ltb _ _ c.if-n-lt64.false ∙ sym (bit_high c.args.word 64 c.args.n (omega arith) c.if-n-lt64.false) }
