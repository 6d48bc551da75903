use Rattle.std.proofs.Common.{◌≡◌, ◌+◌, ◌-◌, sym, ap, ◌∙◌, false, arith}
use Rattle.std.proofs.lemmas.Option.{get_or_from_slice_get}
use Rattle.property.specs.Place.{formulas_of}
use Rattle.form.specs.Grid.{marks_of}
use Rattle.form.specs.Met.{meet_formulas}
use Rattle.form.proofs.FormulaMarks.{meet_yes, meet_no, meet_all}
use Rattle.form.proofs.mark_formula.mark_formulas.Goals as goal

pub loop-k-preserved-then-at : goal.loop-k-preserved-then-at
loop-k-preserved-then-at c =
    let fs = formulas_of c.args.p.now in
    let m = marks_of c.loop-k.met in
    let k = c.loop-k.k - 1 in
    let up : c.loop-k.k ≡ k + 1 = omega (arith, c.loop-k-test.true) in
    let marked = get_or_from_slice_get m.formulas k _ false c.at.ensures ∙ c.if-at.true in
    ap (meet_formulas fs k) (rw (c.of-pair.ensures.entry, c.of-pair.ensures.clock) at c.mark_formula.ensures) ∙ sym (meet_yes fs k m marked) ∙ ap (λ j. meet_formulas fs j m) (sym up) ∙ c.loop-k.invariant

pub loop-k-preserved : goal.loop-k-preserved
loop-k-preserved c =
    let fs = formulas_of c.args.p.now in
    let m = marks_of c.loop-k.met in
    let k = c.loop-k.k - 1 in
    let up : c.loop-k.k ≡ k + 1 = omega (arith, c.loop-k-test.true) in
    let unmarked = get_or_from_slice_get m.formulas k _ false c.at.ensures ∙ c.if-at.false in
    sym (meet_no fs k m unmarked) ∙ ap (λ j. meet_formulas fs j m) (sym up) ∙ c.loop-k.invariant

pub returns : goal.returns
returns c = meet_all (formulas_of c.args.p.now) c.loop-k.k (marks_of c.loop-k.met) (omega (arith, c.loop-k-test.false)) ∙ c.loop-k.invariant
