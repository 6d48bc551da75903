use Rattle.std.proofs.Common.{refl}
use Rattle.psl.proofs.meaning.settled_verdicts.Goals as goal
use Rattle.psl.proofs.Settled.{twelve_settled}

pub returns : goal.returns
returns c = record { value = refl; settled = twelve_settled }
