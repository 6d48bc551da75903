use Rattle.std.proofs.Common.{◌≡◌, true, [], length, Ok, Err, ap, ap₂, ◌∙◌, arith}
use Rattle.std.proofs.lemmas.Result.{err_from_is_err_and}
use Rattle.std.proofs.lemmas.Bool.{le-leb, and_from}
use Rattle.table.specs.Rows.{rows_of}
use Rattle.file.specs.Rules.{sequence_rules, formula_rules}
use Rattle.file.specs.Accepted.{inspected, accepted}
use Rattle.file.proofs.WholeFile.{layout_no, conditions_no, sequences_no, formulas_decide, conditions_filled, sequences_filled, formulas_filled}
use Rattle.file.proofs.read.read_tables.Goals as goal

pub returns-in_err-counts : goal.returns-in_err-counts
returns-in_err-counts c =
    let p = err_from_is_err_and c.from_residual.result c.from_residual.ensures.1 in
    rw (p.1, p.2) (layout_no _ _ c.in_err-counts.ensures)

pub returns-in_err-conditions : goal.returns-in_err-conditions
returns-in_err-conditions c =
    let p = err_from_is_err_and c.from_residual-in_err-conditions.result c.from_residual-in_err-conditions.ensures.1 in
    let laid = c.in_ok-counts.ensures in
    let one = conditions_filled _ _ laid _ c.new.result c.new.ensures.items c.part.ensures.items c.part.ensures.len (Err _) c.in_err-conditions.ensures in
    rw (p.1, p.2) (conditions_no _ laid.no_no _ one)

pub returns-in_err-sequences : goal.returns-in_err-sequences
returns-in_err-sequences c =
    let p = err_from_is_err_and c.from_residual-in_err-sequences.result c.from_residual-in_err-sequences.ensures.1 in
    let laid = c.in_ok-counts.ensures in
    let one = conditions_filled _ _ laid _ c.new.result c.new.ensures.items c.part.ensures.items c.part.ensures.len (Ok c.in_ok-conditions.conditions) c.in_ok-conditions.ensures in
    let two = sequences_filled _ _ laid _ c.new-2.result c.new-2.ensures.0 c.new-2.ensures.1 c.part-2.ensures.items c.part-2.ensures.len (Err _) c.in_err-sequences.ensures in
    rw (p.1, p.2) (sequences_no _ laid.no_no one.no_no _ two)

pub returns-in_err-formulas : goal.returns-in_err-formulas
returns-in_err-formulas c =
    let p = err_from_is_err_and c.from_residual-in_err-formulas.result c.from_residual-in_err-formulas.ensures.1 in
    let laid = c.in_ok-counts.ensures in
    let one = conditions_filled _ _ laid _ c.new.result c.new.ensures.items c.part.ensures.items c.part.ensures.len (Ok c.in_ok-conditions.conditions) c.in_ok-conditions.ensures in
    let two = sequences_filled _ _ laid _ c.new-2.result c.new-2.ensures.0 c.new-2.ensures.1 c.part-2.ensures.items c.part-2.ensures.len (Ok c.in_ok-sequences.sequences) c.in_ok-sequences.ensures in
    let three = formulas_filled _ _ laid _ c.new-3.result c.new-3.ensures.0 c.new-3.ensures.1 c.new-3.ensures.2 c.part-3.ensures.items c.part-3.ensures.len (Err _) c.in_err-formulas.ensures in
    rw (p.1, p.2) (formulas_decide _ laid.no_no one.no_no _ two.no_no three)

pub returns : goal.returns
unfolding accepted
returns c =
    let laid = c.in_ok-counts.ensures in
    let one = conditions_filled _ _ laid _ c.new.result c.new.ensures.items c.part.ensures.items c.part.ensures.len (Ok c.in_ok-conditions.conditions) c.in_ok-conditions.ensures in
    let two = sequences_filled _ _ laid _ c.new-2.result c.new-2.ensures.0 c.new-2.ensures.1 c.part-2.ensures.items c.part-2.ensures.len (Ok c.in_ok-sequences.sequences) c.in_ok-sequences.ensures in
    let three = formulas_filled _ _ laid _ c.new-3.result c.new-3.ensures.0 c.new-3.ensures.1 c.new-3.ensures.2 c.part-3.ensures.items c.part-3.ensures.len (Ok c.in_ok-formulas.formulas) c.in_ok-formulas.ensures in
    let cs = rows_of c.in_ok-conditions.conditions in
    let rs = rows_of c.in_ok-sequences.sequences.entries in
    let fs = rows_of c.in_ok-formulas.formulas.entries in
    let limits = and_from _ _ (and_from _ _ (le-leb 1 (length cs) (omega (arith, laid.some_conditions, one.counted))) (le-leb (length cs) 64 (omega (arith, laid.few_conditions, one.counted))))
    (and_from _ _ (le-leb (length rs) 64 (omega (arith, laid.few_sequences, two.counted))) (and_from _ _ (le-leb 1 (length fs) (omega (arith, laid.some_formulas, three.counted))) (le-leb (length fs) 64 (omega (arith, laid.few_formulas, three.counted))))) in
    let fine_rs : inspected (sequence_rules (length cs)) [] rs ≡ true = ap (λ n. inspected (sequence_rules n) [] rs) one.counted ∙ two.fine in
    let fine_fs : inspected (formula_rules (length cs) (length rs)) [] fs ≡ true = ap₂ (λ n m. inspected (formula_rules n m) [] fs) one.counted two.counted ∙ three.fine in (
      formulas_decide _ laid.no_no one.no_no _ two.no_no three.no_no,
      record {
        conditions = one.holds;
        sequences = two.holds;
        formulas = three.holds;
        accepts = and_from _ _ limits (and_from _ _ one.fine (and_from _ _ fine_rs fine_fs));
        measured = c.in_ok-sequences.sequences.measured;
      },
    )
