-- What a record means, and what its calls do to that.
use Rattle.std.specs.Prelude.{◌≡◌, ℕ, Bool, cond, List, [], ◌∷◌, ◌++◌, length, Some, Ok, Err, Result, nat_lt}
use Rattle.std.specs.List.{slice_get}
use Rattle.answer.specs.Questions.{◌otherwise◌, Call}
use Rattle.letter.specs.declared.full.Full.{Full}
use Rattle.record.specs.declared.refusal.Refusal.{Refusal}
use Rattle.record.specs.declared.refusal.Refusal.TheVariants.{DoesNotFit, NoPlace}

-- the letters in order, and the rule by which one more fits after given letters
pub record Recorded (X : Type 0) : Type 0 where
  pub letters : List X
  pub fits : List X → X → Bool

-- one letter more, under the same rule
abbrev pub with_letter : {X : Type 0} → Recorded X → X → Recorded X
with_letter r x = record { letters = r.letters ++ (x ∷ []); fits = r.fits }

-- one letter more if it fits, else the record as it was
abbrev pub with_if_fits : {X : Type 0} → Recorded X → X → Recorded X
with_if_fits r x = cond (r.fits r.letters x) (with_letter r x) r

-- Reading a place: is it below the count? Then the answer is the letter there.
abbrev pub Reads : {L : Type 0} → ℕ → Recorded (Full L) → Result (Full L) Refusal → Recorded (Full L) → Type 0
Reads place before r after =
    Call ((nat_lt place (length before.letters) otherwise NoPlace) ∷ [])
    (λ letter now. (slice_get before.letters place ≡ Some letter) × (now ≡ before)) before r after

-- Adding a letter: does it fit? Then it stands at the end.
abbrev pub Adds : {X A : Type 0} → X → Recorded X → Result A Refusal → Recorded X → Type 0
Adds x before r after =
    Call ((before.fits before.letters x otherwise DoesNotFit) ∷ []) (λ _ now. now ≡ with_letter before x) before r after

-- what is refused changes nothing
abbrev pub SameIfRefused : {A R S : Type 0} → Result A R → S → S → Type 0
SameIfRefused (Ok a) before after = Unit
SameIfRefused (Err r) before after = after ≡ before
