use Rattle.std.proofs.Common.{sym, ap, ◌∙◌, subst}
use Rattle.automaton.specs.declared.view.View.{View}
use Rattle.automaton.specs.Parts.{size}
use Rattle.automaton.specs.Views.{Fits, row}
use Rattle.automaton.proofs.Standing.{pairs_fit, pairs_some}
use Rattle.automaton.proofs.Views.{fits_row}
use Rattle.automaton.proofs.placed.Placed.row.Goals as goal

pub invariant_of-result : goal.invariant_of-result
invariant_of-result c =
    let w = c.args.self in
    let r = c.args.first.part in
    let q = c.args.first.number in
    let s = c.args.s in
    let fits = fits_row w.view (size r) (size s) (pairs_fit w r s c.requires) q c.args.first.there (pairs_some w.part r s c.requires).1 in
    record { fits = subst (λ (v : View). Fits v (size s)) (sym (c.behind-view.ensures.value ∙ ap (row w.view q) c.states.ensures.value)) fits }
