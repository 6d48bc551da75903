use Rattle.std.proofs.Common.{◌≡◌, [], ◌∷◌, ◌++◌, length, refl, sym, subst, rules}
use Rattle.psl.specs.declared.entry.Formula.TheVariants.{Strong as First}
use Rattle.table.specs.Rows.{rows_of}
use Rattle.file.specs.Operands.{formula_names}
use Rattle.form.specs.Named.{AllNamed}
use Rattle.form.proofs.Grown.{push_named, formula_added}
use Rattle.form.proofs.draft.Draft.add_formula.Goals as goal

pub invariant_of-self : goal.invariant_of-self
invariant_of-self c =
    let d = c.args.self.now in
    let more : rows_of c.push.new.self ≡ rows_of d.formulas ++ c.args.e ∷ [] = search rules in
    let names = formula_names (length (rows_of d.conditions)) (length (rows_of d.sequences)) in
    record {
      conditions_named = d.conditions_named;
      sequences_named = d.sequences_named;
      formulas_named = subst (AllNamed names (First 0)) (sym more) (push_named names (First 0) (rows_of d.formulas) c.args.e d.formulas_named c.requires.names);
    }

pub returns : goal.returns
returns c =
    let d = c.args.self.now in
    let more : rows_of c.push.new.self ≡ rows_of d.formulas ++ c.args.e ∷ [] = search rules in
    let is : c.unwrap.result ≡ length (rows_of d.formulas) = search rules in
    formula_added d _ c.args.e _ refl refl more is
