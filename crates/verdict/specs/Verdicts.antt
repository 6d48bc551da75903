-- The verdicts by their digits.
use Rattle.std.specs.Prelude.{Bool, true, false, ℕ}
use Rattle.verdict.specs.declared.verdict.Verdict.{Verdict}
use Rattle.verdict.specs.declared.verdict.Verdict.TheVariants.{FailedForGood, Pending, Holds, HeldForGood}

-- 0 failed for good, 1 pending, 2 holds, 3 held for good
abbrev pub digit_of : Verdict → ℕ
digit_of FailedForGood = 0
digit_of Pending = 1
digit_of Holds = 2
digit_of HeldForGood = 3

-- a property passes if it holds or held for good
abbrev pub passing : Verdict → Bool
passing FailedForGood = false
passing Pending = false
passing Holds = true
passing HeldForGood = true
