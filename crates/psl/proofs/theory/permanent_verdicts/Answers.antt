use Rattle.psl.proofs.theory.permanent_verdicts.Goals as goal
use Rattle.psl.proofs.Permanent.{permanent_verdicts_lem}

pub returns : goal.returns
returns c = permanent_verdicts_lem
