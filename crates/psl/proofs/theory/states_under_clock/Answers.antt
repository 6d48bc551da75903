use Rattle.std.proofs.Common.{refl}
use Rattle.psl.proofs.theory.states_under_clock.Goals as goal
use Rattle.psl.proofs.Implied.{states_numbered}

pub returns : goal.returns
returns c = record { value = λ c b. refl; numbered = states_numbered }
