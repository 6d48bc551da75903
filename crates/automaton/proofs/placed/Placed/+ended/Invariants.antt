use Rattle.std.proofs.Common.{◌≡◌, ℕ, ◌&&◌}
use Rattle.bits.specs.Member.{member}
use Rattle.psl.specs.Automaton.{states}
use Rattle.psl.specs.Evaluation.{some_below}
use Rattle.psl.specs.Numbered.{numbered_final}
use Rattle.psl.specs.OptionalClock.{Clock}
use Rattle.automaton.specs.Moves.{ended}
use Rattle.automaton.specs.Parts.{clock_in, sequence_of}
use Rattle.automaton.specs.Views.{row, starts_in}
use Rattle.automaton.proofs.placed.Placed.+ended.Given as goal

abbrev pub decreases-ended : goal.decreases-ended
decreases-ended l = l.self.part.number

abbrev pub invariant-loop-p : goal.invariant-loop-p
invariant-loop-p l =
    let k : Clock = clock_in l.self.part in
    let r = sequence_of l.r in
    let s = sequence_of l.s in
    (x : ℕ) → member l.found x ≡ some_below l.p (λ p. ended k s (starts_in l.starts.sets (row l.self.view p (states k s)) k s x) && numbered_final k r p)
