use Rattle.std.proofs.Common.{◌≡◌, ℕ, List, IfOk, Ok, Err, string_bytes, Result, sym, subst}
use mathlib.Core.Option.{none}
use Rattle.answer.specs.Questions.{first_no}
use Rattle.property.specs.declared.place.Property.{Property}
use Rattle.file.specs.File.{questions}
use Rattle.property.specs.Place.{HoldsFile}
use Rattle.watch.specs.Lines.{AcceptedLine, LineAfter, LineOf}
use Rattle.watch.proofs.lines.file_line.Goals as goal

made_more : {X Y : Type 0} (P Q : X → Type 0) (r : Result X Y) → ((x : X) → P x → Q x) → IfOk r P → IfOk r Q
made_more P Q (Ok x) f h = f x h
made_more P Q (Err y) f h = tt

accepted : (bytes line : List ℕ) (p : Property) → first_no (questions bytes) ≡ none → HoldsFile bytes p → AcceptedLine p line → LineOf bytes line
accepted bytes line p none_is holds is = subst (λ o. LineAfter o bytes line) (sym none_is) (p, holds, is)

pub returns-in-Ok : goal.returns-in-Ok
returns-in-Ok c =
    let told = c.in-Ok.ensures in
    made_more _ _ c.property_line.result (λ s. accepted _ (string_bytes s) _ told.0 told.1) c.property_line.ensures
