use Rattle.std.proofs.Common.{refl}
use Rattle.psl.proofs.theory.states_free_of_clock.Goals as goal
use Rattle.psl.proofs.Implied.{automaton_accepts_matches}

pub returns : goal.returns
returns c = record { value = λ b. refl; accepts = automaton_accepts_matches }
