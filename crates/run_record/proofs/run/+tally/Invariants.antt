use Rattle.std.proofs.Common.{length}
use Rattle.run_record.proofs.run.+tally.Given as goal

abbrev pub decreases-tally : goal.decreases-tally
decreases-tally g l = length l.rows.now
