use Rattle.std.proofs.Common.{◌≡◌, rules, sym, ap, ◌∙◌}
use Rattle.letter.specs.Full.{same_full}
use Rattle.run_record.specs.Runs.{continues}
use Rattle.run_record.proofs.Pushes.{last_row_at}
use Rattle.run_record.proofs.run.ends_in.Goals as goal

pub returns-then-used-gt0 : goal.returns-then-used-gt0
returns-then-used-gt0 g c =
    let eq = g.K.PartialEq.eq in
    let r = c.index-rows-used.result in
    let told : c.eq.result ≡ same_full eq r.letter c.args.letter = search rules in
    let ends = last_row_at c.args.rows.now c.args.used r c.if-used-gt0.true c.requires.within c.index-rows-used.is in
    record { value = told ∙ ap (λ o. continues eq o c.args.letter) (sym ends) }
