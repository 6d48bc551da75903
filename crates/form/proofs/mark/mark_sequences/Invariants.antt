use Rattle.std.proofs.Common.{◌≡◌, ◌*◌, length}
use Rattle.property.specs.Place.{sequences_of}
use Rattle.form.specs.Grid.{cells_of}
use Rattle.form.specs.Met.{meet_sequences}
use Rattle.form.proofs.mark.mark_sequences.Given as goal

abbrev pub invariant-loop-k : goal.invariant-loop-k
invariant-loop-k l =
    meet_sequences (sequences_of l.p) l.k (cells_of l.met) ≡ meet_sequences (sequences_of l.p) (64 * length (sequences_of l.p)) (cells_of l.initial.met)
