use Rattle.std.proofs.Common.{◌≡◌, ◌+◌, ◌-◌, sym, ap, ◌∙◌, false, arith}
use Rattle.std.proofs.lemmas.Option.{get_or_from_slice_get}
use Rattle.property.specs.Place.{sequences_of}
use Rattle.form.specs.Met.{meet_sequences}
use Rattle.form.proofs.SequenceMarks.{meet_yes, meet_no, meet_all}
use Rattle.form.proofs.mark.mark_sequences.Goals as goal

pub loop-k-preserved-then-at : goal.loop-k-preserved-then-at
loop-k-preserved-then-at c =
    let rs = sequences_of c.args.p.now in
    let met = c.loop-k.met.cells in
    let k = c.loop-k.k - 1 in
    let up : c.loop-k.k ≡ k + 1 = omega (arith, c.loop-k-test.true) in
    let marked = get_or_from_slice_get met k _ false c.at.ensures ∙ c.if-at.true in
    ap (meet_sequences rs k) (rw (c.of-pair.ensures.entry, c.of-pair.ensures.clock) at c.mark_sequence.ensures) ∙ sym (meet_yes rs k met marked) ∙ ap (λ j. meet_sequences rs j met) (sym up) ∙ c.loop-k.invariant

pub loop-k-preserved : goal.loop-k-preserved
loop-k-preserved c =
    let rs = sequences_of c.args.p.now in
    let met = c.loop-k.met.cells in
    let k = c.loop-k.k - 1 in
    let up : c.loop-k.k ≡ k + 1 = omega (arith, c.loop-k-test.true) in
    let unmarked = get_or_from_slice_get met k _ false c.at.ensures ∙ c.if-at.false in
    sym (meet_no rs k met unmarked) ∙ ap (λ j. meet_sequences rs j met) (sym up) ∙ c.loop-k.invariant

pub returns : goal.returns
returns c = meet_all (sequences_of c.args.p.now) c.loop-k.k c.loop-k.met.cells (omega (arith, c.loop-k-test.false)) ∙ c.loop-k.invariant
