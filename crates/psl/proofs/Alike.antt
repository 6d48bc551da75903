-- Words with the same letters at the same places satisfy the same formulas.
use Rattle.std.proofs.Common.{◌≡◌, ℕ, zero, suc, ◌∷◌, sym, refl, ap, ◌∙◌, subst, ap₂, inl, inr}
use mathlib.Core.Option.{map}
use mathlib.Core.Path.{subst⁻¹}
use Rattle.psl.specs.Syntax.{Sequence, Formula, strong, weak, strong_sequence, weak_sequence, negated, conjoined, next, until, abort, implies}
use Rattle.psl.specs.Syntax.{formula_at}
use Rattle.psl.specs.Letter.{mirror}
use Rattle.psl.specs.Word.{Word, with_tops, mir, rest, seen, Present, Holds, from, or_bottom, front}
use Rattle.psl.specs.OptionalClock.{Clock, on, Ticks, TickUnder, MatchesUnder, StartsUnder, SatisfiesUnder}
use Rattle.psl.proofs.Places.{seen_mir}

abbrev pub Alike : Word → Word → Type 0
Alike w w' = (i : ℕ) → seen w i ≡ seen w' i

alike_back : {w w' : Word} → Alike w w' → Alike w' w
alike_back h i = sym (h i)

alike_front : (n : ℕ) (w w' : Word) → Alike w w' → front w n ≡ front w' n
alike_front zero w w' h = refl
alike_front (suc n) w w' h = ap₂ ◌∷◌ (ap or_bottom (h zero)) (alike_front n (rest w) (rest w') (λ i. h (suc i)))

alike_from : (k : ℕ) (w w' : Word) → Alike w w' → Alike (from w k) (from w' k)
alike_from zero w w' h = h
alike_from (suc k) w w' h = alike_from k (rest w) (rest w') (λ i. h (suc i))

alike_mir : (w w' : Word) → Alike w w' → Alike (mir w) (mir w')
alike_mir w w' h i = seen_mir w i ∙ ap (map mirror) (h i) ∙ sym (seen_mir w' i)

alike_starts : (k : Clock) (r : Sequence) (w w' : Word) → Alike w w' → StartsUnder k r w → StartsUnder k r w'
alike_starts k r w w' h (j, p, m) = (j, subst Present (h j) p, subst (MatchesUnder k r) (alike_front (suc j) w w' h) m)

pub alike_satisfies : (k : Clock) (f : Formula) (w w' : Word) → Alike w w' → SatisfiesUnder k f w → SatisfiesUnder k f w'
alike_satisfies k (strong b) w w' h (j, t, s) = (j, subst (TickUnder k) (alike_front (suc j) w w' h) t, subst (λ o. Holds o b) (h j) s)
alike_satisfies k (weak b) w w' h s = λ j p t.
    subst (λ o. Holds o b) (h j) (s j (subst⁻¹ Present (h j) p) (subst⁻¹ (TickUnder k) (alike_front (suc j) (mir w) (mir w') (alike_mir w w' h)) t))
alike_satisfies k (strong_sequence r) w w' h s = alike_starts k r w w' h s
alike_satisfies k (weak_sequence r) w w' h s = λ j p. subst (λ v. StartsUnder k r (with_tops v)) (alike_front (suc j) w w' h) (s j (subst⁻¹ Present (h j) p))
alike_satisfies k (negated f) w w' h s = λ x. s (alike_satisfies k f (mir w') (mir w) (alike_back (alike_mir w w' h)) x)
alike_satisfies k (conjoined f g) w w' h (a, b) = (alike_satisfies k f w w' h a, alike_satisfies k g w w' h b)
alike_satisfies k (next f) w w' h (i, j, t, p, u, s) =
    let a = from w (suc i) in
    let a' = from w' (suc i) in
    let ha : Alike a a' = alike_from (suc i) w w' h in (
      i,
      j,
      subst (TickUnder k) (alike_front (suc i) w w' h) t,
      subst Present (ha j) p,
      subst (TickUnder k) (alike_front (suc j) a a' ha) u,
      alike_satisfies k f (from a j) (from a' j) (alike_from j a a' ha) s,
    )
alike_satisfies k (until f g) w w' h (i, t, s, b) = (
  i,
  subst (Ticks k) (h i) t,
  alike_satisfies k g (from w i) (from w' i) (alike_from i w w' h) s,
  λ j q x. alike_satisfies k f (from w j) (from w' j) (alike_from j w w' h) (b j q (subst⁻¹ (Ticks k) (alike_mir w w' h j) x)),
)
alike_satisfies k (abort f b) w w' h (inl s) = inl (alike_satisfies k f w w' h s)
alike_satisfies k (abort f b) w w' h (inr (j, t, s)) =
    inr (j, subst (λ o. Holds o b) (h j) t, subst (λ v. SatisfiesUnder k f (with_tops v)) (alike_front j w w' h) s)
alike_satisfies k (implies r f) w w' h s = λ j p m.
    alike_satisfies k f (from w j) (from w' j) (alike_from j w w' h)
    (s j (subst⁻¹ Present (h j) p) (subst⁻¹ (MatchesUnder k r) (alike_front (suc j) (mir w) (mir w') (alike_mir w w' h)) m))
alike_satisfies k (formula_at f d) w w' h s = alike_satisfies (on d) f w w' h s
