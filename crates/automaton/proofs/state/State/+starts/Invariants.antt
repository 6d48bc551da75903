use Rattle.automaton.proofs.state.State.+starts.Given as goal

abbrev pub decreases-starts : goal.decreases-starts
decreases-starts l = l.self.part.number
