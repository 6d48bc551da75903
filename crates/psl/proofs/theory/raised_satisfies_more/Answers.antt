use Rattle.psl.proofs.theory.raised_satisfies_more.Goals as goal
use Rattle.psl.proofs.Order.{⊑-mir}
use Rattle.psl.proofs.Permanent.{raised_satisfies_more_lem}

pub returns : goal.returns
returns c = record { more = raised_satisfies_more_lem; mirrored = ⊑-mir }
