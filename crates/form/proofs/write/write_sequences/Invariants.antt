use Rattle.form.specs.SequenceImages.{SequencesStand}
use Rattle.form.proofs.write.write_sequences.Given as goal

abbrev pub invariant-loop-k : goal.invariant-loop-k
invariant-loop-k l = SequencesStand l.p l.met.cells l.fn.d l.d l.places.cells l.k
