use Rattle.std.proofs.Common.{refl, arith}
use Rattle.psl.specs.Table.{conditions, sequences, formulas}
use Rattle.form.proofs.Made.{new_made, new_rewriting}
use Rattle.form.proofs.place.Form.new.Goals as goal

pub invariant_of-result-2 : goal.invariant_of-result-2
unfolding conditions sequences formulas
invariant_of-result-2 c =
    let new = c.new.ensures in
    record { made = new_made c.new.result _ 0 (rw c.of-2.ensures.items (omega arith)) (rw (c.of.ensures.items, c.new-2.ensures.items, c.of-2.ensures.items) refl) (new_rewriting c.new.result new.conditions new.sequences new.formulas) }
