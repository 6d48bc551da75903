use Rattle.psl.proofs.theory.clock_removal.Goals as goal
use Rattle.psl.proofs.Implied.{clock_removed}

pub returns : goal.returns
returns c = clock_removed
