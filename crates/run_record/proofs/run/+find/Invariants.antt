use Rattle.std.proofs.Common.{length}
use Rattle.run_record.proofs.run.+find.Given as goal

abbrev pub decreases-find : goal.decreases-find
decreases-find g l = length l.rows.now
