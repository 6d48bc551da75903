-- What an ordinary letter, a bottom or a missing letter rules out, mostly under the clock true.
use Rattle.std.proofs.Common.{◌≡◌, ℕ, zero, suc, Bool, T, List, [], ◌∷◌, ◌++◌, subst}
use Rattle.psl.specs.Syntax.{Condition, truth, negation, Sequence, condition, concat, Formula, strong, next}
use Rattle.psl.specs.Letter.{Letter, bottom, ordinary, satisfies}
use Rattle.psl.specs.Word.{Tail, end, tops, bottoms, with_tail, with_tops, Word, seen, Place, Holds, front, Tick}
use Rattle.psl.specs.Clocked.{Matches, Satisfies}
use Rattle.psl.specs.Verdict.{Judged, pending, failed_for_good}

-- no endless tops follow
abbrev pub Topless : Tail → Type 0
Topless end = Unit {0}
Topless tops = ⊥
Topless bottoms = Unit {0}

-- what no tail brings about has failed for good
pub failing : {S : Word → Type 0} {v : List Letter} → ((t : Tail) → S (with_tail v t) → ⊥) → Judged S v 0
failing n = failed_for_good (n bottoms) (n end) (n tops)

-- what only tops bring about is pending
pub waiting : {S : Word → Type 0} {v : List Letter} → ((t : Tail) → Topless t → S (with_tail v t) → ⊥) → S (with_tops v) → Judged S v 1
waiting n y = pending (n bottoms tt) (n end tt) y

-- past its end a finite word has no place
pub no_place : (j : ℕ) → Place (with_tail [] end) j → ⊥
no_place zero p = p
no_place (suc j) p = no_place j p

-- past its letters a word without tops satisfies no condition
pub nothing_beyond : (t : Tail) → Topless t → (j : ℕ) (b : Condition) → Holds (seen (with_tail [] t) j) b → ⊥
nothing_beyond end x zero b h = h
nothing_beyond tops x zero b h = x
nothing_beyond bottoms x zero b h = h
nothing_beyond t x (suc j) b h = nothing_beyond t x j b h

-- no tick begins with a bottom
pub bottom_first : (c : Condition) (v : List Letter) → Tick c (bottom ∷ v) → ⊥
bottom_first c [] t = t
bottom_first c (l ∷ v) t = t.0

-- no tick lies past the letters of a word without tops
pub no_tick_beyond : (t : Tail) → Topless t → (c : Condition) (n : ℕ) → Tick c (front (with_tail [] t) n) → ⊥
no_tick_beyond t x c zero k = k
no_tick_beyond end x c (suc n) k = bottom_first c (front (with_tail [] end) n) k
no_tick_beyond tops x c (suc n) k = x
no_tick_beyond bottoms x c (suc n) k = bottom_first c (front (with_tail [] bottoms) n) k

module _ (own other : ℕ → Bool) where
  -- an ordinary first letter is the whole tick, so it decides b!
  pub strong_fails : (b : Condition) (v : List Letter) (t : Tail) → (T (satisfies (ordinary own other) b) → ⊥)
      → Satisfies truth (strong b) (with_tail (ordinary own other ∷ v) t) → ⊥
  strong_fails b v t n (zero, k, h) = n h
  strong_fails b v t n (suc j, k, h) = k.0

  -- the same for a match of b
  pub match_fails : (b : Condition) (v : List Letter) (t : Tail) → (T (satisfies (ordinary own other) b) → ⊥)
      → (n : ℕ) → Matches truth (condition b) (front (with_tail (ordinary own other ∷ v) t) n) → ⊥
  match_fails b v t f zero (k, h) = k
  match_fails b v t f (suc zero) (k, h) = f h
  match_fails b v t f (suc (suc n)) (k, h) = k.0

  -- X! finds no second tick where one ordinary letter is all there is
  pub next_fails : (f : Formula) (t : Tail) → Topless t → Satisfies truth (next f) (with_tail (ordinary own other ∷ []) t) → ⊥
  next_fails f t x (zero, k, a, b, s) = no_tick_beyond t x truth (suc k) b
  next_fails f t x (suc j, k, a, b, s) = a.0

  -- in a match of b;r that begins with an ordinary letter, the other letters match r
  pub concat_rest : (b : Condition) (r : Sequence) (v : List Letter)
      → Matches truth (concat (condition b) r) (ordinary own other ∷ v) → Matches truth r v
  concat_rest b r v (u, w, e, (k, h), m) = split u w e k m
    where
      split : (u w : List Letter) → ordinary own other ∷ v ≡ u ++ w → Tick truth u → Matches truth r w → Matches truth r v
      split [] w e k m = absurd k
      split (x ∷ []) w e k m = let same : w ≡ v = cc in subst (Matches truth r) same m
      split (x ∷ (y ∷ u)) w e k m =
          let same : x ≡ ordinary own other = cc in
          absurd (subst (λ z. T (satisfies z (negation truth))) same k.0)
