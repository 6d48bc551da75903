-- Order under a clock, and what it says of verdicts.
use Rattle.std.proofs.Common.{ℕ, ◌+◌, List, [], ◌∷◌, ◌++◌, sym, refl, subst, append-nil}
use Rattle.psl.specs.Syntax.{Condition, Formula}
use Rattle.psl.specs.Letter.{Letter}
use Rattle.psl.specs.Word.{end, tops, bottoms, Word, with_tail}
use Rattle.psl.specs.Clocked.{Satisfies}
use Rattle.psl.specs.Verdict.{Judged, held_for_good, holds, pending, failed_for_good}
use Rattle.psl.specs.Order.{◌⊑◌, Nonempty}
use Rattle.psl.specs.Theorems.{RaisedSatisfiesMore, PermanentVerdicts, Counts, says_yes, says_no, Views, VerdictCountsViews}
use Rattle.psl.proofs.ClockedMeaning.{clock_satisfies}
use Rattle.psl.proofs.Monotone.{nonempty_tops, satisfies-⊑}
use Rattle.psl.proofs.Order.{bottoms-⊑, ⊑-tops}

pub raised_satisfies_more_lem : RaisedSatisfiesMore
raised_satisfies_more_lem c f w w' h p p' s = (clock_satisfies c f w').1 (satisfies-⊑ c f w w' h p p' ((clock_satisfies c f w).0 s))

nonempty_bottoms : (v : List Letter) → Nonempty (with_tail v bottoms)
nonempty_bottoms [] = tt
nonempty_bottoms (l ∷ v) = tt

-- the bare letters lie between those with bottoms and those with tops
pub end_above : (v : List Letter) → with_tail v bottoms ⊑ with_tail v end
end_above v = subst (λ u. with_tail v bottoms ⊑ with_tail u end) (append-nil v) (bottoms-⊑ v [] end)

end_below : (v : List Letter) → with_tail v end ⊑ with_tail v tops
end_below v = subst (λ u. with_tail u end ⊑ with_tail v tops) (append-nil v) (⊑-tops v [] end)

module _ (c : Condition) (f : Formula) where
  abbrev S : Word → Type 0
  S = Satisfies c f

  bare_holds : (l : Letter) (v : List Letter) → S (with_tail (l ∷ v) bottoms) → S (with_tail (l ∷ v) end)
  bare_holds l v s = raised_satisfies_more_lem c f (with_tail (l ∷ v) bottoms) (with_tail (l ∷ v) end) (end_above (l ∷ v)) tt tt s

  tops_hold : (l : Letter) (v : List Letter) → S (with_tail (l ∷ v) end) → S (with_tail (l ∷ v) tops)
  tops_hold l v s = raised_satisfies_more_lem c f (with_tail (l ∷ v) end) (with_tail (l ∷ v) tops) (end_below (l ∷ v)) tt tt s

  bottoms_on : (v u : List Letter) → S (with_tail v bottoms) → S (with_tail (v ++ u) bottoms)
  bottoms_on v u s =
      raised_satisfies_more_lem c f (with_tail v bottoms) (with_tail (v ++ u) bottoms) (bottoms-⊑ v u bottoms) (nonempty_bottoms v) (nonempty_bottoms (v ++ u)) s

  tops_back : (v u : List Letter) → S (with_tail (v ++ u) tops) → S (with_tail v tops)
  tops_back v u s = raised_satisfies_more_lem c f (with_tail (v ++ u) tops) (with_tail v tops) (⊑-tops v u tops) (nonempty_tops (v ++ u)) (nonempty_tops v) s

  -- a non-empty list whose view with tops says no has failed for good
  no_tops : (l : Letter) (v : List Letter) → (S (with_tail (l ∷ v) tops) → ⊥) → Judged S (l ∷ v) 0
  no_tops l v n = failed_for_good (λ s. n (tops_hold l v (bare_holds l v s))) (λ s. n (tops_hold l v s)) n

  held : {v : List Letter} → Judged S v 3 → S (with_tail v bottoms)
  held (held_for_good s) = s

  failed : {v : List Letter} → Judged S v 0 → S (with_tail v tops) → ⊥
  failed (failed_for_good a b d) = d

  held_stays : (v u : List Letter) → Judged S v 3 → Judged S (v ++ u) 3
  held_stays v u d = held_for_good (bottoms_on v u (held d))

  failed_stays : (v u : List Letter) → Judged S v 0 → Judged S (v ++ u) 0
  failed_stays [] [] d = d
  failed_stays [] (l ∷ u) d = no_tops l u (λ s. failed d (tops_back [] (l ∷ u) s))
  failed_stays (l ∷ v) u d = no_tops l (v ++ u) (λ s. failed d (tops_back (l ∷ v) u s))

  views : (l : Letter) (v : List Letter) {n : ℕ} → Judged S (l ∷ v) n → Views S (l ∷ v) n
  views l v (held_for_good s) = let t = bare_holds l v s in (1, 1, 1, says_yes s, says_yes t, says_yes (tops_hold l v t), refl)
  views l v (holds a s) = (0, 1, 1, says_no a, says_yes s, says_yes (tops_hold l v s), refl)
  views l v (pending a b s) = (0, 0, 1, says_no a, says_no b, says_yes s, refl)
  views l v (failed_for_good a b d) = (0, 0, 0, says_no a, says_no b, says_no d, refl)

  judged : (l : Letter) (v : List Letter) {i j k : ℕ}
      → Counts (S (with_tail (l ∷ v) bottoms)) i → Counts (S (with_tail (l ∷ v) end)) j → Counts (S (with_tail (l ∷ v) tops)) k → Judged S (l ∷ v) (i + j + k)
  judged l v (says_yes a) (says_yes b) (says_yes d) = held_for_good a
  judged l v (says_yes a) (says_yes b) (says_no d) = absurd (d (tops_hold l v b))
  judged l v (says_yes a) (says_no b) d = absurd (b (bare_holds l v a))
  judged l v (says_no a) (says_yes b) (says_yes d) = holds a b
  judged l v (says_no a) (says_yes b) (says_no d) = absurd (d (tops_hold l v b))
  judged l v (says_no a) (says_no b) (says_yes d) = pending a b d
  judged l v (says_no a) (says_no b) (says_no d) = failed_for_good a b d

pub permanent_verdicts_lem : PermanentVerdicts
permanent_verdicts_lem = record { held_stays = held_stays; failed_stays = failed_stays }

pub verdict_counts_views_lem : VerdictCountsViews
verdict_counts_views_lem c f l v n = (views c f l v, λ (i, j, k, a, b, d, e). subst (Judged (Satisfies c f) (l ∷ v)) (sym e) (judged c f l v a b d))
