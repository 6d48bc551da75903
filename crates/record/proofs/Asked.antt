-- A call that is asked one question.
use Rattle.std.proofs.Common.{◌≡◌, Bool, true, false, cond, [], ◌∷◌, Ok, Err, Result}
use Rattle.answer.specs.Questions.{◌otherwise◌, Call}

-- what is left of a call that moves to one state if the answer is yes, and stays if it is no
pub left_by : {A R S : Type 0} (b : Bool) (e : R) (to from : S) (r : Result A R) (after : S)
    → Call ((b otherwise e) ∷ []) (λ _ now. now ≡ to) from r after → after ≡ cond b to from
left_by true e to from (Ok a) after h = h.1
left_by false e to from (Ok a) after h = let z = h.0 in cc
left_by true e to from (Err r) after h = let z = h.0 in cc
left_by false e to from (Err r) after h = h.1
