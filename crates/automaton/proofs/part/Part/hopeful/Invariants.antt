use Rattle.std.proofs.Common.{◌≡◌, ℕ, ◌&&◌, get_or}
use Rattle.bits.specs.Member.{member}
use Rattle.psl.specs.Evaluation.{some_below}
use Rattle.psl.specs.Numbered.{numbered_live}
use Rattle.automaton.specs.Parts.{clock_in, sequence_of}
use Rattle.automaton.specs.Views.{place, whole, bare}
use Rattle.automaton.proofs.part.Part.hopeful.Given as goal

abbrev pub invariant-loop-p : goal.invariant-loop-p
invariant-loop-p l =
    (x : ℕ) → member l.found x ≡ some_below l.p
    (λ p. member (get_or l.starts.sets (place whole p) bare) x && numbered_live (clock_in l.self) (sequence_of l.self) p)
