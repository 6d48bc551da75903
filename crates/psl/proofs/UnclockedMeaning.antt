-- Free of a clock the one meaning is the unclocked meaning.
use Rattle.std.proofs.Common.{◌≡◌, T, ◌↔◌, List, [], ◌∷◌, sym, refl, ap, subst, ap₂}
use Rattle.psl.specs.Syntax.{Condition, Sequence, condition, concat, fusion, either, both, empty, star, sequence_at, Formula, strong, weak}
use Rattle.psl.specs.Syntax.{strong_sequence, weak_sequence, negated, conjoined, next, until, abort, implies, formula_at}
use Rattle.psl.specs.Letter.{Letter, satisfies}
use Rattle.psl.specs.Word.{Word, from}
use Rattle.psl.specs.Unclocked.{UnclockedMatches, UnclockedSatisfies}
use Rattle.psl.specs.OptionalClock.{free, MatchesUnder, SatisfiesUnder, clock_free}
use Rattle.psl.proofs.Languages.{head_eq, tail_eq, nil_cons}
use Rattle.psl.proofs.Same.{iff_sum, iff_both, Same, concat_same, fusion_same, star_same, starts_same, weakly_same, negated_same, abort_same}
use Rattle.psl.proofs.Same.{implies_same}
use Rattle.psl.proofs.Tests.{and_out, iff_trans, iff_sym}
use Rattle.psl.proofs.Ticks.{free_strong, free_weak, free_next, free_until}

-- the same sequence with nothing, which no list matches, where it has r@d
abbrev pub erase_sequence : Sequence → Sequence
erase_sequence (condition b) = condition b
erase_sequence (concat r s) = concat (erase_sequence r) (erase_sequence s)
erase_sequence (fusion r s) = fusion (erase_sequence r) (erase_sequence s)
erase_sequence (either r s) = either (erase_sequence r) (erase_sequence s)
erase_sequence (both r s) = both (erase_sequence r) (erase_sequence s)
erase_sequence empty = empty
erase_sequence (star r) = star (erase_sequence r)
erase_sequence (sequence_at r d) = fusion empty empty

-- the same formula with nothing, which no word satisfies, where it has f@d
abbrev pub erase : Formula → Formula
erase (strong b) = strong b
erase (weak b) = weak b
erase (strong_sequence r) = strong_sequence (erase_sequence r)
erase (weak_sequence r) = weak_sequence (erase_sequence r)
erase (negated f) = negated (erase f)
erase (conjoined f g) = conjoined (erase f) (erase g)
erase (next f) = next (erase f)
erase (until f g) = until (erase f) (erase g)
erase (abort f b) = abort (erase f) b
erase (implies r f) = implies (erase_sequence r) (erase f)
erase (formula_at f d) = strong_sequence empty

one_same : (b : Condition) → Same (UnclockedMatches (condition b)) (MatchesUnder free (condition b))
one_same b [] = ((λ (m, e, h). nil_cons e), λ x. absurd x.0)
one_same b (l ∷ []) = ((λ (m, e, h). (tt, subst (λ z. T (satisfies z b)) (sym (head_eq e)) h)), λ x. (l, refl, x.1))
one_same b (l ∷ (m ∷ v)) = ((λ (n, e, h). nil_cons (sym (tail_eq e))), λ x. absurd x.0.0)

no_match : (v : List Letter) → MatchesUnder free (fusion empty empty) v → ⊥
no_match v ([], l, w, e, x, y) = nil_cons (sym x)
no_match v (m ∷ u, l, w, e, x, y) = nil_cons (sym x)

pub free_matches : (r : Sequence) → Same (UnclockedMatches r) (MatchesUnder free (erase_sequence r))
free_matches (condition b) = one_same b
free_matches (concat r s) = concat_same (free_matches r) (free_matches s)
free_matches (fusion r s) = fusion_same (free_matches r) (free_matches s)
free_matches (either r s) = λ v. iff_sum (free_matches r v) (free_matches s v)
free_matches (both r s) = λ v. iff_both (free_matches r v) (free_matches s v)
free_matches empty = λ v. (λ x. x, λ x. x)
free_matches (star r) = star_same (free_matches r)
free_matches (sequence_at r d) = λ v. (λ x. absurd x, no_match v)

pub free_satisfies : (f : Formula) (w : Word) → UnclockedSatisfies f w ↔ SatisfiesUnder free (erase f) w
free_satisfies (strong b) w = iff_sym (free_strong b w)
free_satisfies (weak b) w = iff_sym (free_weak b w)
free_satisfies (strong_sequence r) w = starts_same (free_matches r) w
free_satisfies (weak_sequence r) w = weakly_same (free_matches r) w
free_satisfies (negated f) w = negated_same (free_satisfies f) w
free_satisfies (conjoined f g) w = iff_both (free_satisfies f w) (free_satisfies g w)
free_satisfies (next f) w = iff_trans (iff_both (λ p. p, λ p. p) (free_satisfies f (from w 1))) (iff_sym (free_next (erase f) w))
free_satisfies (until f g) w =
    let n = free_until (erase f) (erase g) w in (
      (λ (k, p, s, b). n.1 (k, p, (free_satisfies g (from w k)).0 s, λ j i. (free_satisfies f (from w j)).0 (b j i))),
      (λ x. let (k, p, s, b) = n.0 x in (k, p, (free_satisfies g (from w k)).1 s, λ j i. (free_satisfies f (from w j)).1 (b j i))),
    )
free_satisfies (abort f b) w = abort_same (free_satisfies f) b w
free_satisfies (implies r f) w = implies_same (free_matches r) (free_satisfies f) w
free_satisfies (formula_at f d) w = (λ x. absurd x, λ (j, p, m). nil_cons (sym m))

-- where there is no @ nothing is erased
pub clock_free_same : (r : Sequence) → T (clock_free r) → erase_sequence r ≡ r
clock_free_same (condition b) t = refl
clock_free_same (concat r s) t = let o = and_out (clock_free r) (clock_free s) t in ap₂ concat (clock_free_same r o.0) (clock_free_same s o.1)
clock_free_same (fusion r s) t = let o = and_out (clock_free r) (clock_free s) t in ap₂ fusion (clock_free_same r o.0) (clock_free_same s o.1)
clock_free_same (either r s) t = let o = and_out (clock_free r) (clock_free s) t in ap₂ either (clock_free_same r o.0) (clock_free_same s o.1)
clock_free_same (both r s) t = let o = and_out (clock_free r) (clock_free s) t in ap₂ both (clock_free_same r o.0) (clock_free_same s o.1)
clock_free_same empty t = refl
clock_free_same (star r) t = ap star (clock_free_same r t)
clock_free_same (sequence_at r d) t = absurd t
