use Rattle.std.proofs.Common.{◌≡◌, length, take, sym, ap, ◌∙◌, subst, arith}
use Rattle.std.proofs.lemmas.List.{take_all}
use Rattle.psl.specs.declared.entry.Condition.TheVariants.{True as first}
use Rattle.table.specs.Rows.{rows_of}
use Rattle.file.specs.Operands.{condition_names}
use Rattle.property.specs.Place.{conditions_of}
use Rattle.property.proofs.Held.{few_conditions}
use Rattle.form.specs.Named.{AllNamed}
use Rattle.form.proofs.Begun.{conditions_fine, fresh_is}
use Rattle.form.proofs.rewrite.fresh.Goals as goal

pub invariant_of-result : goal.invariant_of-result
invariant_of-result c =
    let p = c.args.p.now in
    let is : rows_of c.of.result ≡ conditions_of p = c.of.ensures.items ∙ ap (take 256) c.conditions.ensures.value ∙ take_all 256 (conditions_of p) (omega (arith, few_conditions p)) in
    record {
      conditions_named = subst (AllNamed condition_names first) (sym is) (conditions_fine p);
      sequences_named = λ k h. absurd (omega (arith, h, ap length c.new.ensures.items));
      formulas_named = λ k h. absurd (omega (arith, h, ap length c.new-2.ensures.items));
    }

pub returns : goal.returns
returns c =
    let p = c.args.p.now in
    let is : rows_of c.of.result ≡ conditions_of p = c.of.ensures.items ∙ ap (take 256) c.conditions.ensures.value ∙ take_all 256 (conditions_of p) (omega (arith, few_conditions p)) in
    fresh_is p _ is c.new.ensures.items c.new-2.ensures.items
