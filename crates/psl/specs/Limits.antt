-- Where the theorems need their hypotheses: checked counterexamples.
use Rattle.std.specs.Prelude.{ℕ, zero, suc, T, [], ◌∷◌}
use Rattle.psl.specs.Syntax.{Condition, truth, Sequence, condition, concat, both, empty, Formula, strong, strong_sequence, weak_sequence, negated}
use Rattle.psl.specs.Syntax.{next, abort, implies}
use Rattle.psl.specs.Letter.{Letter, top}
use Rattle.psl.specs.Word.{end, tops, bottoms, with_tail, with_tops, front}
use Rattle.psl.specs.Clocked.{Satisfies}
use Rattle.psl.specs.Unclocked.{UnclockedMatches, UnclockedSatisfies}
use Rattle.psl.specs.Verdict.{Verdict}
use Rattle.psl.specs.Automaton.{run_of_tops, extends}
use Rattle.psl.specs.OptionalClock.{free}
use Rattle.psl.specs.Order.{◌⊑◌, topped}
use Rattle.psl.specs.Theorems.{Views}

-- not {[*0]}
abbrev pub not_nothing : Formula
not_nothing = negated (weak_sequence empty)

-- {[*0]} |-> true!, which every word satisfies: no letter is a match of [*0]
abbrev pub anywhere : Formula
anywhere = implies empty (strong truth)

-- {true} && {true;true}, which no list matches
abbrev pub one_and_two : Sequence
one_and_two = both (condition truth) (concat (condition truth) (condition truth))

-- each part: a theorem's hypothesis left out, and what then fails
pub record HypothesesNeeded : Type 0 where
  -- raising the empty word to endless tops loses the weak {[*0]}
  pub empty_order : (c : Condition) → (with_tail [] end ⊑ with_tail [] tops)
      × Satisfies c (weak_sequence empty) (with_tail [] end) × (Satisfies c (weak_sequence empty) (with_tail [] tops) → ⊥)
  -- on the empty word not {[*0]} has the verdict 3, and two views say yes
  pub empty_views : (c : Condition) → Verdict c not_nothing [] 3 × Views (Satisfies c not_nothing) [] 2
  -- on the empty word the weak {[*0]} holds, and the strong one fails on endless tops
  pub empty_prefix : (c : Condition) → Satisfies c (weak_sequence empty) (with_tail [] end) × (Satisfies c (strong_sequence empty) (topped (with_tail [] end)) → ⊥)
  -- free of a clock, X! of what holds anywhere holds where bottoms follow a letter, and not where nothing does
  pub unclocked_order : (l : Letter) → (with_tail (l ∷ []) bottoms ⊑ with_tail (l ∷ []) end)
      × UnclockedSatisfies (next anywhere) (with_tail (l ∷ []) bottoms) × (UnclockedSatisfies (next anywhere) (with_tail (l ∷ []) end) → ⊥)
  -- free of a clock, an abort at the first letter may hold though its operand fails on endless tops
  pub unclocked_abort : UnclockedSatisfies (abort (negated (next anywhere)) truth) (with_tail (top ∷ []) end)
      × (UnclockedSatisfies (negated (next anywhere)) (with_tops (front (with_tail (top ∷ []) end) zero)) → ⊥)
  -- free of a clock, live_start may be true of a sequence that is not ticked though no run of tops matches
  pub unticked_tops : T (extends free one_and_two []) × ((n : ℕ) → UnclockedMatches one_and_two (run_of_tops (suc n)) → ⊥)
