-- Questions that are asked in order: the first no decides.
use Rattle.std.specs.Prelude.{◌≡◌, Bool, true, false, List, [], ◌∷◌, Ok, Err, Result}
use Rattle.std.proofs.Math.Option.{Option, none, some}

infix 60 ◌otherwise◌
-- a question's answer, and the refusal that a no means
pub data Question (R : Type 0) : Type 0 where
  ◌otherwise◌ : Bool → R → Question R

-- the refusal of the first question that is answered no
abbrev pub first_no : {R : Type 0} → List (Question R) → Option R
first_no [] = none
first_no ((true otherwise r) ∷ later) = first_no later
first_no ((false otherwise r) ∷ later) = some r

-- A call that is asked these questions in the state `before` answers, and leaves the state `after`:
-- with no no it is granted, and the grant says what holds; else it is refused by the first no and nothing has changed.
abbrev pub Call : {R A S : Type 0} → List (Question R) → (A → S → Type 0) → S → Result A R → S → Type 0
Call questions Grant before (Ok a) after = (first_no questions ≡ none) × Grant a after
Call questions Grant before (Err r) after = (first_no questions ≡ some r) × (after ≡ before)
