use Rattle.psl.proofs.theory.hypotheses_needed.Goals as goal
use Rattle.psl.proofs.Limits.{hypotheses_needed_lem}

pub returns : goal.returns
returns c = hypotheses_needed_lem
