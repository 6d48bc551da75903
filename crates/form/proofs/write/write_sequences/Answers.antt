use Rattle.std.proofs.Common.{◌+◌, ◌*◌, ◌<◌, false, length, refl, sym, ap, ◌∙◌, subst, arith}
use Rattle.std.proofs.lemmas.Option.{get_or_from_slice_get}
use Rattle.property.specs.Place.{sequences_of}
use Rattle.property.proofs.Held.{few_conditions}
use Rattle.form.specs.Grid.{cells_of}
use Rattle.form.specs.SequenceImages.{SequencesStand}
use Rattle.form.proofs.Grown.{grows_none}
use Rattle.form.proofs.SequenceSteps.{step_yes, step_no, ready_here, room_here, inside}
use Rattle.form.proofs.write.write_sequences.Goals as goal
use Rattle.form.proofs.write.write_sequences.Goals.{then-at, else-at}

pub loop-k-init : goal.loop-k-init
loop-k-init c = (grows_none c.args.d.now, c.requires.carries, (λ i c l h m. let z : ⊥ = omega arith in absurd z), omega arith, omega arith, refl)

pub write_sequence-r-requires : goal.write_sequence-r-requires
write_sequence-r-requires c =
    let p = c.args.p.now in
    let met = c.args.met.now.cells in
    let inv = c.loop-k.invariant in
    let k = c.loop-k.k in
    let n = length (sequences_of p) in
    let marked = get_or_from_slice_get met k _ false c.at.ensures ∙ c.if-at.true in
    let h : k < 64 * n = omega (arith, c.loop-k-test.true, c.sequence_count-k-end.ensures.value) in
    let ready = ready_here p met _ _ _ k inv c.requires.closed marked h (few_conditions p) in
    record {
      carries = inv.1;
      there = rw c.of-pair.ensures.entry (inside k n h);
      clock = rw c.of-pair.ensures.clock (ready.0);
      ready = rw (c.of-pair.ensures.entry, c.of-pair.ensures.clock) (ready.1);
      room = rw c.of-pair.ensures.entry (room_here p met _ _ _ k inv _ h marked c.requires.room);
    }

pub loop-k-preserved : goal.loop-k-preserved
loop-k-preserved c =
    let p = c.args.p.now in
    let met = c.args.met.now.cells in
    let inv = c.loop-k.invariant in
    let k = c.loop-k.k in
    let is = get_or_from_slice_get met k _ false c.at.ensures in
    let room : k < length c.loop-k.places.cells = omega (arith, c.loop-k.places.long, c.loop-k-test.true, c.sequence_count-k-end.ensures.high_bound) in
    elim c.if-at.branch [
      | then-at w ↦
          subst (λ d. SequencesStand p met c.args.d.now d c.if-at.places.cells (k + 1)) (sym w.d-is)
          (subst (λ ps. SequencesStand p met c.args.d.now w.write_sequence-r.new.d ps (k + 1)) (sym (ap cells_of w.places-is ∙ (rw w.of-pair.ensures.same at w.put.ensures)))
          (step_yes p met _ _ _ k inv _ _ (is ∙ w.if-at.true) room (rw (w.of-pair.ensures.entry, w.of-pair.ensures.clock) at w.write_sequence-r.ensures)))
      | else-at w ↦
          subst (λ d. SequencesStand p met c.args.d.now d c.if-at.places.cells (k + 1)) (sym w.d-is)
          (subst (λ ps. SequencesStand p met c.args.d.now c.loop-k.d ps (k + 1)) (sym (ap cells_of w.places-is))
          (step_no p met _ _ _ k inv (is ∙ w.if-at.false)))
    ]
