use Rattle.automaton.proofs.state.State.+is_live.Given as goal

abbrev pub decreases-is_live : goal.decreases-is_live
decreases-is_live l = l.self.part.number
