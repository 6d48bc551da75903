-- A sequence matches up to some place from which the word has a property: inside the letters, or past them in endless tops.
use Rattle.std.proofs.Common.{◌≡◌, ℕ, suc, ◌+◌, ◌-◌, ◌<◌, ◌≤◌, T, ◌⊎◌, ◌↔◌, List, [], ◌++◌, length, take, sym, ap, ◌∙◌, subst, inl, inr, arith}
use mathlib.Core.Path.{subst⁻¹}
use Rattle.psl.specs.Syntax.{Sequence, Formula, implies}
use Rattle.psl.specs.Letter.{Letter}
use Rattle.psl.specs.Word.{Tail, end, tops, bottoms, Word, with_tail, mir, Place, from, front}
use Rattle.psl.specs.Automaton.{run_of_tops}
use Rattle.psl.specs.Evaluation.{is_tops}
use Rattle.psl.specs.OptionalClock.{Clock, MatchesUnder, SatisfiesUnder}
use Rattle.psl.proofs.Beyond.{front_take, from_past, place_in, place_tops, no_place_past, front_tops}
use Rattle.psl.proofs.Bottomless.{matches_bottomless, matches_place, bottomless_past}
use Rattle.psl.proofs.Mirrors.{mir_twice, from_mir}
use Rattle.psl.proofs.Places.{place_of_mir}
use Rattle.psl.proofs.Tests.{settle, below_or}

-- some w[0..j] matches r, and w[j..] is in S
abbrev pub Reach : Clock → Sequence → (Word → Type 0) → Word → Type 0
Reach k r S w = (j : ℕ) × Place w j × MatchesUnder k r (front w (suc j)) × S (from w j)

module _ (k : Clock) (r : Sequence) (S : Word → Type 0) (v : List Letter) where
  -- up to a letter of v
  abbrev pub Inside : Tail → Type 0
  Inside t = (j : ℕ) × (j < length v) × (MatchesUnder k r (take (suc j) v) × S (from (with_tail v t) j))

  -- all of v and one or more tops
  abbrev pub Past : Tail → Type 0
  Past t = T (is_tops t) × (((m : ℕ) × MatchesUnder k r (v ++ run_of_tops (suc m))) × S (with_tail [] t))

  inside_reaches : (t : Tail) → Inside t → Reach k r S (with_tail v t)
  inside_reaches t (j, h, (m, s)) = (j, place_in v t j h, subst (MatchesUnder k r) (sym (front_take v t (suc j) h)) m, s)

  past_reaches : (t : Tail) → Past t → Reach k r S (with_tail v t)
  past_reaches end (x, y) = absurd x
  past_reaches bottoms (x, y) = absurd x
  past_reaches tops (x, ((m, y), s)) =
      let j = length v + m in
      let e : suc j ≡ length v + suc m = omega arith in (
        j,
        place_tops v j,
        subst (MatchesUnder k r) (sym (ap (front (with_tail v tops)) e ∙ front_tops v (suc m))) y,
        subst S
            (sym (from_past v tops j (omega arith))) s,
      )

  reaches_past : (t : Tail) (j : ℕ) → length v ≤ j → Place (with_tail v t) j → MatchesUnder k r (front (with_tail v t) (suc j))
      → S (from (with_tail v t) j) → Past t
  reaches_past end j h p m s = absurd (no_place_past v j h p)
  reaches_past bottoms j h p m s = absurd (bottomless_past v j h (matches_bottomless k r (front (with_tail v bottoms) (suc j)) m))
  reaches_past tops j h p m s =
      let e : suc j ≡ length v + suc (j - length v) = omega arith in
      (tt, ((j - length v, subst (MatchesUnder k r) (ap (front (with_tail v tops)) e ∙ front_tops v (suc (j - length v))) m), subst S (from_past v tops j h) s))

  pub reach_parts : (t : Tail) → Reach k r S (with_tail v t) ↔ (Inside t ⊎ Past t)
  reach_parts t = (λ (j, p, m, s). to j p m s (below_or j (length v)), back)
    where
      to : (j : ℕ) → Place (with_tail v t) j → MatchesUnder k r (front (with_tail v t) (suc j)) → S (from (with_tail v t) j) → (j < length v) ⊎ (length v ≤ j)
          → Inside t ⊎ Past t
      to j p m s (inl h) = inl (j, h, (subst (MatchesUnder k r) (front_take v t (suc j) h) m, s))
      to j p m s (inr h) = inr (reaches_past t j h p m s)

      back : Inside t ⊎ Past t → Reach k r S (with_tail v t)
      back (inl x) = inside_reaches t x
      back (inr x) = past_reaches t x

-- r |-> f fails where the mirror reaches a place whose mirror fails f
module _ (k : Clock) (r : Sequence) (f : Formula) (w : Word) where
  abbrev pub Breaks : Word → Type 0
  Breaks x = SatisfiesUnder k f (mir x) → ⊥

  pub mirrored_back : (j : ℕ) → mir (from (mir w) j) ≡ from w j
  mirrored_back j = ap mir (from_mir j w) ∙ mir_twice (from w j)

  pub implies_unbroken : ((j : ℕ) → Dec (SatisfiesUnder k f (from w j))) → SatisfiesUnder k (implies r f) w ↔ (Reach k r Breaks (mir w) → ⊥)
  implies_unbroken d = (
    (λ s (j, p, m, n). n (subst⁻¹ (SatisfiesUnder k f) (mirrored_back j) (s j (place_of_mir w j p) m))),
    (λ n j p m. settle (d j) (λ x. n (j, matches_place k r j (mir w) m, m, λ y. x (subst (SatisfiesUnder k f) (mirrored_back j) y)))),
  )
