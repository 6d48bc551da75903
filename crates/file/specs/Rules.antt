-- The questions put to an entry: what its section asks of it, over the entries before it.
use Rattle.std.specs.Prelude.{◌≡◌, ℕ, Bool, false, ◌||◌, List, [], ◌∷◌, length, Some, None, Ok, Err, Option, Result, nat_le, nat_lt}
use Rattle.std.proofs.Math.Option.{none, some}
use Rattle.answer.specs.Questions.{Question, ◌otherwise◌, first_no}
use Rattle.psl.specs.declared.entry.Condition.{Condition}
use Rattle.psl.specs.declared.entry.Sequence.{Sequence}
use Rattle.psl.specs.declared.entry.Formula.{Formula}
use Rattle.file.specs.declared.refusal.Reason.{Reason}
use Rattle.file.specs.declared.refusal.Reason.TheVariants.{KindNotListed, OperandNamesNothing, FirstNotTrue, SequenceTooLarge}
use Rattle.file.specs.declared.raw.Raw.{Raw}
use Rattle.file.specs.Kinds.{condition_spelled, sequence_spelled, formula_spelled}
use Rattle.file.specs.Operands.{condition_names, sequence_names, formula_names, is_true}
use Rattle.file.specs.Sizes.{size_over, sizes}

-- what a section takes for an entry, and what it asks of one after the entries before it
pub record Rules (E : Type 0) : Type 0 where
  pub spelled : Raw → Option E
  pub about : List E → E → List (Question Reason)

-- condition i names what it may, and the first is true
abbrev pub about_condition : ℕ → Condition → List (Question Reason)
about_condition i e = (condition_names i e otherwise OperandNamesNothing) ∷ ((nat_lt 0 i || is_true e) otherwise FirstNotTrue) ∷ []

-- a sequence after sequences of these sizes names what it may, and its size is at most 240
abbrev pub about_sequence : ℕ → List ℕ → Sequence → List (Question Reason)
about_sequence n before e =
    (sequence_names n (length before) e otherwise OperandNamesNothing) ∷ (nat_le (size_over before e) 240 otherwise SequenceTooLarge) ∷ []

-- formula i names what it may
abbrev pub about_formula : ℕ → ℕ → ℕ → Formula → List (Question Reason)
about_formula n m i e = (formula_names n m i e otherwise OperandNamesNothing) ∷ []

-- the first question of each: an entry names what it may
abbrev pub about_names : {E : Type 0} → (E → Bool) → E → List (Question Reason)
about_names names e = (names e otherwise OperandNamesNothing) ∷ []

-- the rules of the three sections, after n conditions and m sequences
abbrev pub condition_rules : Rules Condition
condition_rules = record { spelled = condition_spelled; about = λ before. about_condition (length before) }

abbrev pub sequence_rules : ℕ → Rules Sequence
sequence_rules n = record { spelled = sequence_spelled; about = λ before. about_sequence n (sizes before) }

abbrev pub formula_rules : ℕ → ℕ → Rules Formula
formula_rules n m = record { spelled = formula_spelled; about = λ before. about_formula n m (length before) }

-- every question put to one entry: is it spelled, and then what its section asks
abbrev pub about_entry : {E : Type 0} → Option E → (E → List (Question Reason)) → List (Question Reason)
about_entry None about = (false otherwise KindNotListed) ∷ []
about_entry (Some e) about = about e

-- what comes of one entry: it is taken, or the first no to it
abbrev pub Answered : {E : Type 0} → Option E → (E → List (Question Reason)) → Result E Reason → Type 0
Answered spelled about (Ok e) = (spelled ≡ Some e) × (first_no (about e) ≡ none)
Answered spelled about (Err f) = first_no (about_entry spelled about) ≡ some f
