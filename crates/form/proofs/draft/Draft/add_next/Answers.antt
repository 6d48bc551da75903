use Rattle.std.proofs.Common.{refl, ap, ap₂, arith}
use Rattle.psl.specs.Syntax.{strong, conjoined, until, next}
use Rattle.form.specs.Draft.{ConditionIs, FormulaIs, condition_in, formula_in}
use Rattle.form.proofs.Grown.{keep_condition, keep_formula, grows_twice, formula_as}
use Rattle.form.proofs.draft.Draft.add_next.Goals as goal

pub returns : goal.returns
returns c =
    let d = c.args.self.now in
    let i1 = c.add_condition-idle.ensures in
    let i2 = c.add_formula-wait.ensures in
    let i3 = c.add_formula-tick.ensures in
    let i4 = c.on_tick-inner.ensures in
    let i5 = c.add_formula-step.ensures in
    let i6 = c.on_tick.ensures in
    let clock : ConditionIs d c.args.c (condition_in d c.args.c) = record { there = c.requires.clock; is = refl } in
    let under : FormulaIs d c.args.g (formula_in d c.args.g) = record { there = c.requires.under; is = refl } in
    let g12 = grows_twice i1.grows i2.grows in
    let g13 = grows_twice g12 i3.grows in
    let g45 = grows_twice i4.grows i5.grows in
    let wait = formula_as (ap strong i1.is.is) i2.is in
    let wait3 = keep_formula i3.grows wait in
    let tick = formula_as (ap strong (keep_condition g12 clock).is) i3.is in
    let inner = formula_as (ap₂ until wait3.is (ap₂ conjoined tick.is (keep_formula g13 under).is)) i4.is in
    let step = formula_as (ap next inner.is) i5.is in
    record {
      grows = grows_twice g13 (grows_twice g45 i6.grows);
      is = formula_as (ap₂ until (keep_formula g45 wait3).is (ap₂ conjoined (keep_formula g45 tick).is step.is)) i6.is;
      count_c = omega (arith, i1.count_c, i2.count_c, i3.count_c, i4.count_c, i5.count_c, i6.count_c);
      count_s = omega (arith, i1.count_s, i2.count_s, i3.count_s, i4.count_s, i5.count_s, i6.count_s);
      count_f = omega (arith, i1.count_f, i2.count_f, i3.count_f, i4.count_f, i5.count_f, i6.count_f);
    }
