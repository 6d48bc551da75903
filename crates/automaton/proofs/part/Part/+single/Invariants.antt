use Rattle.automaton.proofs.part.Part.+single.Given as goal

abbrev pub decreases-single : goal.decreases-single
decreases-single l = l.self.number
