use Rattle.std.proofs.Common.{refl, ap, ap₂, arith}
use Rattle.psl.specs.Syntax.{strong, conjunction, until}
use Rattle.form.specs.Draft.{ConditionIs, condition_in}
use Rattle.form.proofs.Grown.{keep_condition, keep_formula, grows_twice, condition_as, formula_as}
use Rattle.form.proofs.draft.Draft.add_strong.Goals as goal

pub returns : goal.returns
returns c =
    let d = c.args.self.now in
    let i1 = c.add_condition-idle.ensures in
    let i2 = c.add_condition-hit.ensures in
    let i3 = c.add_formula-wait.ensures in
    let i4 = c.add_formula-last.ensures in
    let i5 = c.add_formula.ensures in
    let clock : ConditionIs d c.args.c (condition_in d c.args.c) = record { there = c.requires.clock; is = refl } in
    let under : ConditionIs d c.args.b (condition_in d c.args.b) = record { there = c.requires.under; is = refl } in
    let hit = condition_as (ap₂ conjunction (keep_condition i1.grows clock).is (keep_condition i1.grows under).is) i2.is in
    let wait = formula_as (ap strong (keep_condition i2.grows i1.is).is) i3.is in
    let last = formula_as (ap strong (keep_condition i3.grows hit).is) i4.is in
    record {
      grows = grows_twice i1.grows (grows_twice i2.grows (grows_twice i3.grows (grows_twice i4.grows i5.grows)));
      is = formula_as (ap₂ until (keep_formula i4.grows wait).is last.is) i5.is;
      count_c = omega (arith, i1.count_c, i2.count_c, i3.count_c, i4.count_c, i5.count_c);
      count_s = omega (arith, i1.count_s, i2.count_s, i3.count_s, i4.count_s, i5.count_s);
      count_f = omega (arith, i1.count_f, i2.count_f, i3.count_f, i4.count_f, i5.count_f);
    }
