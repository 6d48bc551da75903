use Rattle.form.specs.FormulaImages.{FormulasStand}
use Rattle.form.proofs.write_formula.write_formulas.Given as goal

abbrev pub invariant-loop-k : goal.invariant-loop-k
invariant-loop-k l = FormulasStand l.p l.met.formulas.cells l.met.sequences.cells l.fn.d l.d l.sequences.cells l.places.cells l.k
