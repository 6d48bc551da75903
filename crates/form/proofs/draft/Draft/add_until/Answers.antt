use Rattle.std.proofs.Common.{refl, ap, ap₂, arith}
use Rattle.psl.specs.Syntax.{negated, conjoined, until}
use Rattle.form.specs.Draft.{FormulaIs, formula_in}
use Rattle.form.proofs.Grown.{keep_formula, grows_twice, formula_as}
use Rattle.form.proofs.draft.Draft.add_until.Goals as goal

pub returns : goal.returns
returns c =
    let d = c.args.self.now in
    let i1 = c.add_formula-tick.ensures in
    let i2 = c.add_formula-fails.ensures in
    let i3 = c.add_formula-bad.ensures in
    let i4 = c.add_formula-fine.ensures in
    let i5 = c.add_formula-last.ensures in
    let i6 = c.add_formula.ensures in
    let left : FormulaIs d c.args.f (formula_in d c.args.f) = record { there = c.requires.left; is = refl } in
    let right : FormulaIs d c.args.g (formula_in d c.args.g) = record { there = c.requires.right; is = refl } in
    let fails = formula_as (ap negated (keep_formula i1.grows left).is) i2.is in
    let tick2 = keep_formula i2.grows i1.is in
    let bad = formula_as (ap₂ conjoined tick2.is fails.is) i3.is in
    let fine = formula_as (ap negated bad.is) i4.is in
    let g34 = grows_twice i3.grows i4.grows in
    let g14 = grows_twice i1.grows (grows_twice i2.grows g34) in
    let last = formula_as (ap₂ conjoined (keep_formula g34 tick2).is (keep_formula g14 right).is) i5.is in
    record {
      grows = grows_twice g14 (grows_twice i5.grows i6.grows);
      is = formula_as (ap₂ until (keep_formula i5.grows fine).is last.is) i6.is;
      count_c = omega (arith, i1.count_c, i2.count_c, i3.count_c, i4.count_c, i5.count_c, i6.count_c);
      count_s = omega (arith, i1.count_s, i2.count_s, i3.count_s, i4.count_s, i5.count_s, i6.count_s);
      count_f = omega (arith, i1.count_f, i2.count_f, i3.count_f, i4.count_f, i5.count_f, i6.count_f);
    }
