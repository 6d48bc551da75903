use Rattle.psl.proofs.theory.abort_by_first_place.Goals as goal
use Rattle.psl.proofs.Implied.{abort_by_first_place_lem}

pub returns : goal.returns
returns c = abort_by_first_place_lem
