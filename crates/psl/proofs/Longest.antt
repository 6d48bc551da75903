-- Weak sequences by the longest prefix.
use Rattle.std.proofs.Common.{◌≡◌, ℕ, zero, suc, ◌↔◌, List, [], ◌∷◌, ◌++◌, length, refl, ap, subst}
use mathlib.Core.Option.{some}
use Rattle.psl.specs.Syntax.{Sequence, strong_sequence, weak_sequence}
use Rattle.psl.specs.Letter.{Letter, top, bottom}
use Rattle.psl.specs.Word.{Tail, end, tops, bottoms, Word, with_tail, with_tops, head, rest, Present, Place, or_bottom, front}
use Rattle.psl.specs.OptionalClock.{Clock, StartsUnder, SatisfiesUnder}
use Rattle.psl.specs.Order.{Below, same, ◌⊑◌, Nonempty, topped_tail, topped}
use Rattle.psl.proofs.Beyond.{front_all, front_past, place_past, place_last, place_bottoms}
use Rattle.psl.proofs.Bottomless.{Bottomless, bottomless_tail, matches_bottomless}
use Rattle.psl.proofs.Monotone.{starts-⊑}
use Rattle.psl.proofs.Order.{tops_most, ⊑-tops}
use Rattle.psl.proofs.Places.{place_first}

topped_first : (v : List Letter) (t : Tail) → Present (head v t) → Below (head v (topped_tail t)) (some (or_bottom (head v t)))
topped_first [] end p = absurd p
topped_first [] tops p = same
topped_first [] bottoms p = same
topped_first (l ∷ v) t p = same

topped-⊑ : (j : ℕ) (w : Word) → Place w j → topped w ⊑ with_tops (front w (suc j))
topped-⊑ j w p zero = topped_first w.letters w.tail (place_first j w p)
topped-⊑ zero w p (suc i) = tops_most i (rest (topped w))
topped-⊑ (suc j) w p (suc i) = topped-⊑ j (rest w) p i

-- a match ends before the first bottom
bottomless_same : (v : List Letter) (n : ℕ) → Bottomless (front (with_tops (v ++ (bottom ∷ []))) n)
    → front (with_tops (v ++ (bottom ∷ []))) n ≡ front (with_tail v bottoms) n
bottomless_same v zero h = refl
bottomless_same [] (suc n) h = absurd h
bottomless_same (l ∷ v) (suc n) h = ap (λ u. l ∷ u) (bottomless_same v n (bottomless_tail l (front (with_tops (v ++ (bottom ∷ []))) n) h))

module _ (k : Clock) (r : Sequence) where
  before_bottom : (v : List Letter) → StartsUnder k r (with_tops (v ++ (bottom ∷ []))) → StartsUnder k r (with_tail v bottoms)
  before_bottom v (j, p, m) = (j, place_bottoms v j, rw (bottomless_same v (suc j) (matches_bottomless k r (front (with_tops (v ++ (bottom ∷ []))) (suc j)) m)) at m)

  longest : (v : List Letter) (t : Tail) → Nonempty (with_tail v t) → SatisfiesUnder k (weak_sequence r) (with_tail v t) → StartsUnder k r (topped (with_tail v t))
  longest [] end p s = absurd p
  longest (l ∷ v) end p s = subst (λ u. StartsUnder k r (with_tops u)) (front_all (l ∷ v) end) (s (length v) (place_last l v end))
  longest v tops p s = starts-⊑ k r (with_tops (v ++ (top ∷ []))) (with_tail v tops) (⊑-tops v (top ∷ []) tops)
      (subst (λ u. StartsUnder k r (with_tops u)) (front_past v tops) (s (length v) (place_past v tops tt)))
  longest v bottoms p s = before_bottom v (subst (λ u. StartsUnder k r (with_tops u)) (front_past v bottoms) (s (length v) (place_past v bottoms tt)))

  pub weak_longest : (w : Word) → Nonempty w → SatisfiesUnder k (weak_sequence r) w ↔ SatisfiesUnder k (strong_sequence r) (topped w)
  weak_longest w p = (longest w.letters w.tail p, λ s j q. starts-⊑ k r (topped w) (with_tops (front w (suc j))) (topped-⊑ j w q) s)
