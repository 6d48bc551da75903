use Rattle.std.proofs.Common.{refl, ap₂, arith}
use Rattle.psl.specs.Syntax.{until}
use Rattle.form.specs.Draft.{FormulaIs, formula_in}
use Rattle.form.proofs.Grown.{keep_formula, grows_twice, formula_as}
use Rattle.form.proofs.draft.Draft.on_tick.Goals as goal

pub returns : goal.returns
returns c =
    let d = c.args.self.now in
    let i1 = c.add_formula-both.ensures in
    let i2 = c.add_formula.ensures in
    let wait : FormulaIs d c.args.wait (formula_in d c.args.wait) = record { there = c.requires.first; is = refl } in
    record {
      grows = grows_twice i1.grows i2.grows;
      is = formula_as (ap₂ until (keep_formula i1.grows wait).is i1.is.is) i2.is;
      count_c = omega (arith, i1.count_c, i2.count_c);
      count_s = omega (arith, i1.count_s, i2.count_s);
      count_f = omega (arith, i1.count_f, i2.count_f);
    }
