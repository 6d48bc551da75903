use Rattle.psl.proofs.theory.verdict_counts_views.Goals as goal
use Rattle.psl.proofs.Permanent.{verdict_counts_views_lem}

pub returns : goal.returns
returns c = verdict_counts_views_lem
