-- Counterexamples to the theorems without their hypotheses.
use Rattle.std.proofs.Common.{◌≡◌, ℕ, zero, suc, List, [], ◌∷◌, ◌++◌, sym, refl, ◌∙◌, ap₂, inl}
use Rattle.psl.specs.Syntax.{Condition, empty, weak_sequence}
use Rattle.psl.specs.Letter.{Letter}
use Rattle.psl.specs.Word.{Tail, end, tops, bottoms, Word, with_tail, with_tops, mir, head, Present, from, front}
use Rattle.psl.specs.Clocked.{Starts, Satisfies}
use Rattle.psl.specs.Unclocked.{UnclockedMatches, UnclockedSatisfies}
use Rattle.psl.specs.Verdict.{held_for_good}
use Rattle.psl.specs.Automaton.{run_of_tops}
use Rattle.psl.specs.Limits.{anywhere, one_and_two, HypothesesNeeded}
use Rattle.psl.specs.Theorems.{says_yes, says_no}
use Rattle.psl.proofs.Languages.{tail_eq, nil_cons}
use Rattle.psl.proofs.Order.{tops_most}
use Rattle.psl.proofs.Permanent.{end_above}
use Rattle.psl.proofs.Refuted.{no_place}

weak_empty : (c : Condition) → Satisfies c (weak_sequence empty) (with_tail [] end)
weak_empty c j p = absurd (no_place j p)

-- no word starts with [*0] as a match of one letter or more
no_start : (c : Condition) (w : Word) → Starts c empty w → ⊥
no_start c w (j, p, m) = nil_cons (sym m)

not_weak : (c : Condition) (t : Tail) → Present (head [] t) → Satisfies c (weak_sequence empty) (with_tail [] t) → ⊥
not_weak c t p s = no_start c (with_tops (front (with_tail [] t) 1)) (s zero p)

holds_anywhere : (w : Word) → UnclockedSatisfies anywhere w
holds_anywhere w j p m = nil_cons (sym m)

one_not_two : (n : ℕ) → UnclockedMatches one_and_two (run_of_tops (suc n)) → ⊥
one_not_two n ((l, e, x), (u, w, d, (a, f, y), (b, g, z))) = nil_cons (sym (tail_eq two))
  where
    two : ◌≡◌ {A = List Letter} (a ∷ b ∷ []) (l ∷ [])
    two = sym (ap₂ ◌++◌ f g) ∙ sym d ∙ e

pub hypotheses_needed_lem : HypothesesNeeded
hypotheses_needed_lem = record {
  empty_order = λ c. ((λ i. tops_most i (with_tail [] end)), weak_empty c, not_weak c tops tt);
  empty_views = λ c. (
    held_for_good (not_weak c tops tt),
    (1, 0, 1, says_yes (not_weak c tops tt), says_no (λ n. n (weak_empty c)), says_yes (not_weak c bottoms tt), refl),
  );
  empty_prefix = λ c. (weak_empty c, no_start c (with_tops []));
  unclocked_order = λ l. (end_above (l ∷ []), (tt, holds_anywhere (from (with_tail (l ∷ []) bottoms) 1)), λ s. s.0);
  unclocked_abort = (inl (λ s. s.0), λ s. s (tt, holds_anywhere (from (mir (with_tops [])) 1)));
  unticked_tops = (tt, one_not_two);
}
