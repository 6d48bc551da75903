-- The first no of questions that are asked in parts.
use Rattle.std.proofs.Common.{◌≡◌, true, false, List, [], ◌∷◌, ◌++◌, refl}
use mathlib.Core.Option.{none, some}
use Rattle.answer.specs.Questions.{Question, ◌otherwise◌, first_no}

-- after questions that are all answered yes, the later ones decide
pub pass : {R : Type 0} (qs rs : List (Question R)) → first_no qs ≡ none → first_no (qs ++ rs) ≡ first_no rs
pass [] rs e = refl
pass ((true otherwise r) ∷ qs) rs e = pass qs rs e
pass ((false otherwise r) ∷ qs) rs e = cc

-- after a no, nothing later counts
pub stop : {R : Type 0} (r : R) (qs rs : List (Question R)) → first_no qs ≡ some r → first_no (qs ++ rs) ≡ some r
stop r [] rs e = cc
stop r ((true otherwise s) ∷ qs) rs e = stop r qs rs e
stop r ((false otherwise s) ∷ qs) rs e = e

-- where there is no no at all, there is none in either part
pub both_pass : {R : Type 0} (qs rs : List (Question R)) → first_no (qs ++ rs) ≡ none → (first_no qs ≡ none) × (first_no rs ≡ none)
both_pass [] rs e = (refl, e)
both_pass ((true otherwise r) ∷ qs) rs e = both_pass qs rs e
both_pass ((false otherwise r) ∷ qs) rs e = (cc, cc)
