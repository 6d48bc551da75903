-- Verdicts: how a property stands after the letters recorded so far.
use Rattle.std.specs.Prelude.{ℕ, List}
use Rattle.psl.specs.Syntax.{Condition, Formula}
use Rattle.psl.specs.Letter.{Letter}
use Rattle.psl.specs.Word.{Word, end, tops, bottoms, with_tail}
use Rattle.psl.specs.Clocked.{Satisfies}
use Rattle.psl.specs.Unclocked.{UnclockedSatisfies}

-- the digit on the letters v by the satisfaction S: 3 if v with endless bottoms has it, else 2 if v does, else 1 if v with endless tops does, else 0
pub data Judged (S : Word → Type 0) (v : List Letter) : ℕ → Type 0 where
  held_for_good : S (with_tail v bottoms) → Judged S v 3
  holds : (S (with_tail v bottoms) → ⊥) → S (with_tail v end) → Judged S v 2
  pending : (S (with_tail v bottoms) → ⊥) → (S (with_tail v end) → ⊥) → S (with_tail v tops) → Judged S v 1
  failed_for_good : (S (with_tail v bottoms) → ⊥) → (S (with_tail v end) → ⊥) → (S (with_tail v tops) → ⊥) → Judged S v 0

-- n is the verdict of the formula f under the clock c on the letters v
abbrev pub Verdict : Condition → Formula → List Letter → ℕ → Type 0
Verdict c f v n = Judged (Satisfies c f) v n

-- n is the clock-free verdict of the formula f on the letters v
abbrev pub ClockFreeVerdict : Formula → List Letter → ℕ → Type 0
ClockFreeVerdict f v n = Judged (UnclockedSatisfies f) v n
