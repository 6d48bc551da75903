use Rattle.std.proofs.Common.{arith}
use Rattle.truth.proofs.Places.{row_cut}
use Rattle.truth.proofs.row.row.Goals as goal

pub returns : goal.returns
returns c = record { value = row_cut c.args.bytes.now c.args.k c.min-from.result c.min-to.result (omega arith) (omega arith) }
