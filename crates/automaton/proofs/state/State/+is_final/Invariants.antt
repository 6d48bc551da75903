use Rattle.automaton.proofs.state.State.+is_final.Given as goal

abbrev pub decreases-is_final : goal.decreases-is_final
decreases-is_final l = l.self.part.number
