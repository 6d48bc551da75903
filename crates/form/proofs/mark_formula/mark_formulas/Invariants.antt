use Rattle.std.proofs.Common.{◌≡◌, ◌*◌, length}
use Rattle.property.specs.Place.{formulas_of}
use Rattle.form.specs.Grid.{marks_of}
use Rattle.form.specs.Met.{meet_formulas}
use Rattle.form.proofs.mark_formula.mark_formulas.Given as goal

abbrev pub invariant-loop-k : goal.invariant-loop-k
invariant-loop-k l =
    meet_formulas (formulas_of l.p) l.k (marks_of l.met) ≡ meet_formulas (formulas_of l.p) (64 * length (formulas_of l.p)) (marks_of l.initial.met)
