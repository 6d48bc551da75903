use Rattle.std.proofs.Common.{◌+◌, ◌*◌, false, ◌&&◌}
use Rattle.bits.specs.Member.{member}
use Rattle.psl.specs.Automaton.{states}
use Rattle.psl.specs.Numbered.{numbered_init}
use Rattle.psl.specs.OptionalClock.{Clock}
use Rattle.automaton.specs.Clocks.{letter_in}
use Rattle.automaton.specs.Parts.{clock_in, sequence_of}
use Rattle.automaton.specs.Views.{column, row}
use Rattle.automaton.proofs.Sweep.{Swept}
use Rattle.automaton.proofs.placed.Placed.+advance.Given as goal

abbrev pub decreases-advance : goal.decreases-advance
decreases-advance l = 2 * l.self.part.number + 1

abbrev pub decreases-advance_pairs : goal.decreases-advance_pairs
decreases-advance_pairs l = 2 * l.self.part.number

abbrev pub invariant-advance_pairs-loop-p : goal.invariant-advance_pairs-loop-p
invariant-advance_pairs-loop-p l =
    let k : Clock = clock_in l.self.part in
    let m = states k (sequence_of l.s) in
    Swept k (sequence_of l.r) (letter_in l.letter) (λ j. column l.self.view j m) m (λ j x. false) l.initial.starts.sets l.starts.sets l.p

abbrev pub invariant-advance_pairs-loop-q : goal.invariant-advance_pairs-loop-q
invariant-advance_pairs-loop-q l =
    let k : Clock = clock_in l.self.part in
    let m = states k (sequence_of l.s) in
    Swept k (sequence_of l.s) (letter_in l.letter) (λ j. row l.self.view j m) (states k (sequence_of l.r))
    (λ j x. member l.enter x && numbered_init k (sequence_of l.r) (letter_in l.letter) j)
    l.initial.starts.sets l.starts.sets l.q
