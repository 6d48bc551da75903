use Rattle.psl.proofs.theory.tops_decided.Goals as goal
use Rattle.psl.proofs.Implied.{tops_decided_lem}

pub returns : goal.returns
returns c = tops_decided_lem
