use Rattle.psl.proofs.theory.meanings_decidable.Goals as goal
use Rattle.psl.proofs.Implied.{meanings_decidable_lem}

pub returns : goal.returns
returns c = meanings_decidable_lem
