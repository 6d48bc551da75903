use Rattle.std.proofs.Common.{◌≡◌, ◌≤◌, [], ◌∷◌, ◌++◌, length, refl, sym, ap, ◌∙◌, subst, rules}
use mathlib.Core.Option.{none, some}
use Rattle.std.proofs.lemmas.Result.{err_from_is_err_and}
use Rattle.std.proofs.lemmas.Bool.{le-leb}
use Rattle.answer.specs.Questions.{first_no}
use Rattle.answer.proofs.FirstNo.{pass}
use Rattle.table.specs.Rows.{rows_of}
use Rattle.file.specs.Kinds.{sequence_spelled}
use Rattle.file.specs.Operands.{sequence_names}
use Rattle.file.specs.Rules.{about_names, about_entry}
use Rattle.file.specs.Sizes.{sizes, size_over}
use Rattle.file.proofs.Entries.{names_no}
use Rattle.file.proofs.Sizes.{length_sizes}
use Rattle.file.proofs.sequences.SequencesFilling.take_entry.Goals as goal

pub returns-in_err-entry : goal.returns-in_err-entry
returns-in_err-entry c =
    let t = c.args.self.now in
    let es = rows_of t.entries in
    let p = err_from_is_err_and c.from_residual.result c.from_residual.ensures.1 in
    let counted : c.len.result ≡ length (sizes es) = c.len.ensures.value ∙ sym (length_sizes es) in
    rw (p.1, p.2) (names_no (sequence_spelled c.args.raw) (sequence_names t.conditions (length (sizes es))) _ c.in_err-entry.field-0.0
    (subst (λ k. first_no (about_entry (sequence_spelled c.args.raw) (about_names (sequence_names t.conditions k))) ≡ some c.in_err-entry.field-0.0) counted c.in_err-entry.ensures))

pub returns : goal.returns
returns c =
    let t = c.args.self.now in
    let es = rows_of t.entries in
    let e = c.in_ok-entry.entry in
    let told = c.in_ok-entry.ensures in
    let counted : c.len.result ≡ length (sizes es) = c.len.ensures.value ∙ sym (length_sizes es) in
    let more : rows_of c.push.new.self ≡ es ++ e ∷ [] = search rules in
    let names : first_no (about_names (sequence_names t.conditions (length (sizes es))) e) ≡ none =
    subst (λ k. first_no (about_names (sequence_names t.conditions k) e) ≡ none) counted told.1 in
    let size_is : c.size_after-size.result ≡ size_over (sizes es) e = c.size_after-size.ensures ∙ ap (λ zs. size_over zs e) t.measured in
    let small : size_over (sizes es) e ≤ 240 = subst (λ z. z ≤ 240) size_is c.if-size-gt240.false in
    (e, told.0, pass (about_names (sequence_names t.conditions (length (sizes es))) e) _ names ∙ rw (le-leb (size_over (sizes es) e) 240 small) refl, more, refl)
