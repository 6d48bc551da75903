use Rattle.std.proofs.Common.{sym, ◌∙◌}
use Rattle.std.proofs.lemmas.Bool.{le-ltb}
use Rattle.bits.proofs.Sets.{in_past, in_read}
use Rattle.bits.proofs.flags.told.Goals as goal

pub returns-then-n-row : goal.returns-then-n-row
returns-then-n-row c = record { value = c.has.ensures.value ∙ in_read 8 c.args.row.now c.args.n _ c.from.ensures }

pub returns-else-n-row : goal.returns-else-n-row
returns-else-n-row c = record { value = le-ltb _ _ c.if-n-row.false ∙ sym (in_past 8 c.args.row.now c.args.n c.if-n-row.false) }
