use Rattle.std.proofs.Common.{ℕ, ◌*◌, sym, ap₂, subst}
use Rattle.automaton.specs.declared.view.View.{View}
use Rattle.automaton.specs.Parts.{size}
use Rattle.automaton.specs.Views.{Fits}
use Rattle.automaton.proofs.Standing.{pairs_fit, pairs_some}
use Rattle.automaton.proofs.Views.{fits_column}
use Rattle.automaton.proofs.placed.Placed.column.Goals as goal

pub place-requires : goal.place-requires
place-requires c =
    let w = c.args.self in
    let r = c.args.r in
    let s = c.args.second.part in
    let p = c.args.second.number in
    (fits_column w.view (size r) (size s) (pairs_fit w r s c.requires) p c.args.second.there (pairs_some w.part r s c.requires).0).low

pub invariant_of-result : goal.invariant_of-result
invariant_of-result c =
    let w = c.args.self in
    let r = c.args.r in
    let s = c.args.second.part in
    let p = c.args.second.number in
    let fits = fits_column w.view (size r) (size s) (pairs_fit w r s c.requires) p c.args.second.there (pairs_some w.part r s c.requires).0 in
    let view = λ (b m : ℕ). let v : View = record { base = b; stride = w.view.stride * m } in v in
    record { fits = subst (λ (v : View). Fits v (size r)) (sym (ap₂ view c.place.ensures.value c.states.ensures.value)) fits }
