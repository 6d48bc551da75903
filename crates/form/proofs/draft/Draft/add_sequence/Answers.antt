use Rattle.std.proofs.Common.{◌≡◌, [], ◌∷◌, ◌++◌, length, refl, rules}
use Rattle.table.specs.Rows.{rows_of}
use Rattle.form.proofs.Grown.{sequence_added}
use Rattle.form.proofs.draft.Draft.add_sequence.Goals as goal

pub returns : goal.returns
returns c =
    let d = c.args.self.now in
    let more : rows_of c.push.new.self ≡ rows_of d.sequences ++ c.args.e ∷ [] = search rules in
    let is : c.unwrap.result ≡ length (rows_of d.sequences) = search rules in
    sequence_added d _ c.args.e _ refl more refl is
