-- A word with letters raised satisfies at least as much: matches under any clock or none, formulas under a clock.
use Rattle.std.proofs.Common.{◌≡◌, ℕ, zero, suc, T, List, [], ◌∷◌, refl, inl, inr}
use mathlib.Core.Option.{Option, none, some}
use Rattle.psl.specs.Syntax.{Condition, negation, Sequence, condition, concat, fusion, either, both, empty, star, sequence_at, Formula, strong}
use Rattle.psl.specs.Syntax.{weak, strong_sequence, weak_sequence, negated, conjoined, next, until, abort, implies, formula_at}
use Rattle.psl.specs.Letter.{Letter, top}
use Rattle.psl.specs.Word.{Word, with_tops, mir, rest, seen, Present, Place, Holds, from, or_bottom, front}
use Rattle.psl.specs.OptionalClock.{Clock, free, on, ticks, waits, Ticks, TickUnder, MatchesUnder, StartsUnder, SatisfiesUnder}
use Rattle.psl.specs.Order.{Below, low, high, same, ◌⊑◌, Nonempty}
use Rattle.psl.proofs.Bottomless.{ticking_place, matches_place}
use Rattle.psl.proofs.Order.{below_holds, below_or_bottom, ⊑-mir, ⊑-from, Above, front_raised, tops_raised}
use Rattle.psl.proofs.Pairwise.{Carries, ends_carry, tick_carry, concat_carry, fusion_carry, repeats_carry, empty_carry}
use Rattle.psl.proofs.Places.{holds_present, place?, place_first, first_of, place_of_mir, place_in_mir}
use Rattle.psl.proofs.Ticks.{ticks_holds}

ticks_below : (k : Clock) {l m : Letter} → Below (some l) (some m) → T (ticks k l) → T (ticks k m)
ticks_below free h t = tt
ticks_below (on c) h t = below_holds c h t

waits_below : (k : Clock) {l m : Letter} → Below (some l) (some m) → T (waits k l) → T (waits k m)
waits_below free h t = absurd t
waits_below (on c) h t = below_holds (negation c) h t

tick_raised : (k : Clock) → Carries Above (TickUnder k) (TickUnder k)
tick_raised k = tick_carry Above k k (λ l m. ticks_below k) (λ l m. waits_below k)

matches_raised : (k : Clock) (r : Sequence) → Carries Above (MatchesUnder k r) (MatchesUnder k r)
matches_raised k (condition b) = λ u v h (t, e). (tick_raised k u v h t, ends_carry Above b b (λ l m. below_holds b) u v h e)
matches_raised k (concat r s) =
    concat_carry Above (MatchesUnder k r) (MatchesUnder k r) (MatchesUnder k s) (MatchesUnder k s) (matches_raised k r) (matches_raised k s)
matches_raised k (fusion r s) =
    fusion_carry Above (MatchesUnder k r) (MatchesUnder k r) (MatchesUnder k s) (MatchesUnder k s) (matches_raised k r) (matches_raised k s)
matches_raised k (either r s) = λ u v h. elim [ inl x ↦ inl (matches_raised k r u v h x) | inr x ↦ inr (matches_raised k s u v h x) ]
matches_raised k (both r s) = λ u v h (x, y). (matches_raised k r u v h x, matches_raised k s u v h y)
matches_raised k empty = empty_carry Above
matches_raised k (star r) = λ u v h x. repeats_carry Above (MatchesUnder k r) (MatchesUnder k r) (matches_raised k r) x v h
matches_raised k (sequence_at r d) = matches_raised (on d) r

pub starts-⊑ : (k : Clock) (r : Sequence) (w w' : Word) → w ⊑ w' → StartsUnder k r w → StartsUnder k r w'
starts-⊑ k r w w' h (j, p, m) =
    let x = matches_raised k r (front w (suc j)) (front w' (suc j)) (front_raised (suc j) w w' h) m in
    (j, matches_place k r j w' x, x)

tick-⊑ : (k : Clock) (w w' : Word) → w ⊑ w' → (j : ℕ) → TickUnder k (front w (suc j)) → TickUnder k (front w' (suc j))
tick-⊑ k w w' h j t = tick_raised k (front w (suc j)) (front w' (suc j)) (front_raised (suc j) w w' h) t

ticks-⊑ : (c : Condition) {x y : Option Letter} → Below x y → Ticks (on c) x → Ticks (on c) y
ticks-⊑ c low t = absurd t
ticks-⊑ c high t = tt
ticks-⊑ c same t = t

nonempty_from : (k : ℕ) (w : Word) → Place w k → Nonempty (from w k)
nonempty_from k w h = rw (first_of k w) h

nonempty_holds : (k : ℕ) (w : Word) (b : Condition) → Holds (seen w k) b → Nonempty (from w k)
nonempty_holds k w b h = nonempty_from k w (holds_present (seen w k) b h)

pub nonempty_tops : (v : List Letter) → Nonempty (with_tops v)
nonempty_tops [] = tt
nonempty_tops (l ∷ v) = tt

nonempty_mir : (w : Word) → Nonempty w → Nonempty (mir w)
nonempty_mir w p = place_in_mir w zero p

above_none : {y : Option Letter} → Below none y → Present y → y ≡ some top
above_none high h = refl
above_none same h = absurd h

not_gone : (x y : Option Letter) → Below x y → (Present x → ⊥) → Present y → Below (some top) (some (or_bottom y))
not_gone none none h n p = absurd p
not_gone none (some m) h n p = rw (← above_none h tt) same
not_gone (some l) y h n p = absurd (n tt)

-- above a word with no letter, each letter is top
tops_above : (j : ℕ) (w w' : Word) → w ⊑ w' → (Nonempty w → ⊥) → Place w' j → with_tops [] ⊑ with_tops (front w' (suc j))
tops_above j w w' h n p zero = not_gone (seen w zero) (seen w' zero) (h zero) n (place_first j w' p)
tops_above zero w w' h n p (suc i) = same
tops_above (suc j) w w' h n p (suc i) = tops_above j (rest w) (rest w') (λ k. h (suc k)) (λ q. n (place_first 1 w q)) p i

cons-⊑ : (l m : Letter) (u v : List Letter) → Below (some l) (some m) → with_tops u ⊑ with_tops v → with_tops (l ∷ u) ⊑ with_tops (m ∷ v)
cons-⊑ l m u v h k zero = h
cons-⊑ l m u v h k (suc i) = k i

-- for each prefix of the upper word, one of the lower word below it
prefix_below : (j : ℕ) (w w' : Word) → w ⊑ w' → Nonempty w → Place w' j
    → (n : ℕ) × Place w n × (with_tops (front w (suc n)) ⊑ with_tops (front w' (suc j)))
prefix_below zero w w' h f p = (zero, f, tops_raised (front w 1) (front w' 1) (front_raised 1 w w' h))
prefix_below (suc j) w w' h f p =
    elim (place? (seen w 1)) [
      | yes q ↦
          let k = prefix_below j (rest w) (rest w') (λ i. h (suc i)) q p in (
            suc k.0,
            k.1,
            cons-⊑ (or_bottom (seen w zero)) (or_bottom (seen w' zero)) (front (rest w) (suc k.0)) (front (rest w') (suc j))
                (below_or_bottom (h zero)) k.2,
          )
      | no n ↦ (
        zero,
        f,
        cons-⊑ (or_bottom (seen w zero)) (or_bottom (seen w' zero)) [] (front (rest w') (suc j)) (below_or_bottom (h zero))
            (tops_above j (rest w) (rest w') (λ i. h (suc i)) n p),
      )
    ]

tops-⊑ : (n : ℕ) (w w' : Word) → w ⊑ w' → with_tops (front w n) ⊑ with_tops (front w' n)
tops-⊑ n w w' h = tops_raised (front w n) (front w' n) (front_raised n w w' h)

pub satisfies-⊑ : (c : Condition) (f : Formula) (w w' : Word) → w ⊑ w' → Nonempty w → Nonempty w' → SatisfiesUnder (on c) f w → SatisfiesUnder (on c) f w'
satisfies-⊑ c (strong b) w w' h p p' (j, t, s) = (j, tick-⊑ (on c) w w' h j t, below_holds b (h j) s)
satisfies-⊑ c (weak b) w w' h p p' s = λ j q t.
    let t' = tick-⊑ (on c) (mir w') (mir w) (⊑-mir w w' h) j t in
    below_holds b (h j) (s j (place_of_mir w j (ticking_place c j (mir w) t')) t')
satisfies-⊑ c (strong_sequence r) w w' h p p' s = starts-⊑ (on c) r w w' h s
satisfies-⊑ c (weak_sequence r) w w' h p p' s = λ j q.
    let k = prefix_below j w w' h p q in
    starts-⊑ (on c) r (with_tops (front w (suc k.0))) (with_tops (front w' (suc j))) k.2 (s k.0 k.1)
satisfies-⊑ c (negated f) w w' h p p' s = λ x. s (satisfies-⊑ c f (mir w') (mir w) (⊑-mir w w' h) (nonempty_mir w' p') (nonempty_mir w p) x)
satisfies-⊑ c (conjoined f g) w w' h p p' (a, b) = (satisfies-⊑ c f w w' h p p' a, satisfies-⊑ c g w w' h p p' b)
satisfies-⊑ c (next f) w w' h p p' (j, k, t, q, u, s) =
    let a = from w (suc j) in
    let a' = from w' (suc j) in
    let ha = ⊑-from (suc j) w w' h in
    let u' = tick-⊑ (on c) a a' ha k u in
    let q' = ticking_place c k a' u' in
    (j, k, tick-⊑ (on c) w w' h j t, q', u', satisfies-⊑ c f (from a k) (from a' k) (⊑-from k a a' ha) (nonempty_from k a q) (nonempty_from k a' q') s)
satisfies-⊑ c (until f g) w w' h p p' (k, t, s, b) =
    let t' = ticks-⊑ c (h k) t in (
      k,
      t',
      satisfies-⊑ c g (from w k) (from w' k) (⊑-from k w w' h) (nonempty_holds k w c ((ticks_holds c (seen w k)).0 t))
          (nonempty_holds k w' c ((ticks_holds c (seen w' k)).0 t')) s,
      λ j i q'.
          let q = ticks-⊑ c (⊑-mir w w' h j) q' in
          satisfies-⊑ c f (from w j) (from w' j) (⊑-from j w w' h)
          (nonempty_from j w (place_of_mir w j (holds_present (seen (mir w) j) c ((ticks_holds c (seen (mir w) j)).0 q))))
          (nonempty_from j w' (place_of_mir w' j (holds_present (seen (mir w') j) c ((ticks_holds c (seen (mir w') j)).0 q'))))
          (b j i q),
    )
satisfies-⊑ c (abort f b) w w' h p p' (inl s) = inl (satisfies-⊑ c f w w' h p p' s)
satisfies-⊑ c (abort f b) w w' h p p' (inr (j, t, s)) =
    inr (
      j,
      below_holds b (h j) t,
      satisfies-⊑ c f (with_tops (front w j)) (with_tops (front w' j)) (tops-⊑ j w w' h) (nonempty_tops (front w j))
          (nonempty_tops (front w' j)) s,
    )
satisfies-⊑ c (implies r f) w w' h p p' s = λ j q' m'.
    let m = matches_raised (on c) r (front (mir w') (suc j)) (front (mir w) (suc j)) (front_raised (suc j) (mir w') (mir w) (⊑-mir w w' h)) m' in
    let q = place_of_mir w j (matches_place (on c) r j (mir w) m) in
    satisfies-⊑ c f (from w j) (from w' j) (⊑-from j w w' h) (nonempty_from j w q) (nonempty_from j w' q') (s j q m)
satisfies-⊑ c (formula_at f d) w w' h p p' s = satisfies-⊑ d f w w' h p p' s
