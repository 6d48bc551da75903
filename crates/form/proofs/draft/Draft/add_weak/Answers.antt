use Rattle.std.proofs.Common.{refl, ap, ap₂, arith}
use Rattle.psl.specs.Syntax.{strong, negated}
use Rattle.psl.specs.Removal.{unclock}
use Rattle.form.specs.Draft.{ConditionIs, condition_in}
use Rattle.form.proofs.Grown.{keep_condition, grows_twice, formula_as}
use Rattle.form.proofs.draft.Draft.add_weak.Goals as goal

pub returns : goal.returns
returns c =
    let d = c.args.self.now in
    let i1 = c.add_condition-other.ensures in
    let i2 = c.add_strong-found.ensures in
    let i3 = c.add_formula.ensures in
    let clock : ConditionIs d c.args.c (condition_in d c.args.c) = record { there = c.requires.clock; is = refl } in
    let found = formula_as (ap₂ (λ t u. unclock t (strong u)) (keep_condition i1.grows clock).is i1.is.is) i2.is in
    record {
      grows = grows_twice i1.grows (grows_twice i2.grows i3.grows);
      is = formula_as (ap negated found.is) i3.is;
      count_c = omega (arith, i1.count_c, i2.count_c, i3.count_c);
      count_s = omega (arith, i1.count_s, i2.count_s, i3.count_s);
      count_f = omega (arith, i1.count_f, i2.count_f, i3.count_f);
    }
