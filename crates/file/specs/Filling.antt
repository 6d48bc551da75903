-- A section's table while its entries are read.
use Rattle.std.specs.Prelude.{◌≡◌, ℕ, List, [], ◌∷◌, ◌++◌, Some, Ok, Err, Result}
use Rattle.std.proofs.Math.Option.{none, some}
use Rattle.answer.specs.Questions.{first_no}
use Rattle.file.specs.declared.refusal.Refusal.{Refusal}
use Rattle.file.specs.declared.refusal.Section.{Section}
use Rattle.file.specs.declared.refusal.Reason.{Reason}
use Rattle.file.specs.declared.raw.Raw.{Raw}
use Rattle.file.specs.Rules.{Rules, about_entry}
use Rattle.file.specs.File.{about_entries, spelled}

-- one entry more stands at the end and the rules stay, or the first no to it
abbrev pub Takes : {E A : Type 0} → Rules E → List E → Raw → Result A Reason → Rules E → List E → Type 0
Takes {E} rules before x (Ok a) rules' after =
    (e : E) × (rules.spelled x ≡ Some e) × (first_no (rules.about before e) ≡ none) × (after ≡ before ++ (e ∷ [])) × (rules' ≡ rules)
Takes rules before x (Err f) rules' after = first_no (about_entry (rules.spelled x) (rules.about before)) ≡ some f

-- all the entries stand at the end of a table's and its rules stay, or the first no to one of them
abbrev pub Fills : {T E : Type 0} → (T → Rules E) → (T → List E) → Section → ℕ → T → List Raw → Result T Refusal → Type 0
Fills rules filled s o before xs (Ok after) =
    (first_no (about_entries (rules before) s o (filled before) xs) ≡ none)
    × (filled after ≡ filled before ++ spelled (rules before) xs) × (rules after ≡ rules before)
Fills rules filled s o before xs (Err r) = first_no (about_entries (rules before) s o (filled before) xs) ≡ some r
