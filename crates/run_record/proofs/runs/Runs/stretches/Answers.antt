use Rattle.std.proofs.Common.{◌≡◌, length, take, None, sym, ap, ◌∙◌, arith, length-take, rules}
use Rattle.run_record.specs.Runs.{spread, stretches}
use Rattle.run_record.proofs.Tally.{rows_told}
use Rattle.run_record.proofs.runs.Runs.stretches.Goals as goal

pub returns : goal.returns
returns g c =
    let eq = g.K.PartialEq.eq in
    let rows = c.args.self.now.rows.now in
    let told = c.count_rows.ensures in
    let r = c.count_rows.result in
    let many : stretches eq None (spread (take r.rows rows)) ≡ length (take r.rows rows) =
    (rows_told eq g.met.K.Kind.decided (take r.rows rows) None 0 r.letters told.len).0 in
    let long : length (take r.rows rows) ≡ r.rows = simp length-take (omega (arith, told.within)) in
    record {
      value = sym long ∙ sym many ∙ ap (λ xs. stretches eq None (spread xs)) told.items;
      same = search rules;
    }
