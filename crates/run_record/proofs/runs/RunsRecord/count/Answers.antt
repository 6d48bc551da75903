use Rattle.std.proofs.Common.{◌≡◌, length, take, ap, ◌∙◌, arith, rules}
use Rattle.run_record.specs.Runs.{spread}
use Rattle.run_record.proofs.Tally.{tally_count, tally_few}
use Rattle.run_record.proofs.runs.RunsRecord.count.Goals as goal

pub returns : goal.returns
returns g c =
    let eq = g.K.PartialEq.eq in
    let rows = c.args.self.now.rows.now in
    let told = c.count_rows.ensures in
    let r = c.count_rows.result in
    let is : r.letters ≡ length (spread (take r.rows rows)) = omega (arith, tally_count eq (take r.rows rows) _ 0 r.letters told.len) in
    record {
      value = is ∙ ap (λ xs. length (spread xs)) told.items;
      few = tally_few eq (take r.rows rows) _ 0 r.letters (omega arith) told.len;
      same = search rules;
    }
