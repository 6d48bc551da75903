use Rattle.psl.proofs.theory.weak_by_longest_prefix.Goals as goal
use Rattle.psl.proofs.Implied.{weak_by_longest_prefix_lem}

pub returns : goal.returns
returns c = weak_by_longest_prefix_lem
