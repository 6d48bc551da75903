use Rattle.psl.proofs.theory.tops_enough.Goals as goal
use Rattle.psl.proofs.Implied.{tops_sufficient}

pub returns : goal.returns
returns c = tops_sufficient
