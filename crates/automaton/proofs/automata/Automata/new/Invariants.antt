use Rattle.std.proofs.Common.{◌≡◌, take}
use Rattle.automaton.specs.Automata.{entries_of}
use Rattle.automaton.proofs.automata.Automata.new.Given as goal

abbrev pub invariant-loop-entry : goal.invariant-loop-entry
invariant-loop-entry l = entries_of l.all ≡ take l.entry-index l.table
