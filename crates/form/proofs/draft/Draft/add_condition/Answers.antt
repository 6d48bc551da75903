use Rattle.std.proofs.Common.{◌≡◌, [], ◌∷◌, ◌++◌, length, refl, rules}
use Rattle.table.specs.Rows.{rows_of}
use Rattle.form.proofs.Grown.{condition_added}
use Rattle.form.proofs.draft.Draft.add_condition.Goals as goal

pub returns : goal.returns
returns c =
    let d = c.args.self.now in
    let more : rows_of c.push.new.self ≡ rows_of d.conditions ++ c.args.e ∷ [] = search rules in
    let is : c.unwrap.result ≡ length (rows_of d.conditions) = search rules in
    condition_added d _ c.args.e _ more refl refl is
