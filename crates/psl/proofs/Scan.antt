-- One backward scan evaluates conditions, X! and U.
use Rattle.std.proofs.Common.{◌≡◌, ℕ, zero, suc, ◌<◌, Bool, false, not, ◌&&◌, ◌||◌, T, ◌⊎◌, ◌↔◌, List, [], ◌∷◌, map, sym, refl, ap, ◌∙◌, subst, inl, inr, le_of_suc-le-suc, arith}
use mathlib.Core.Option.{Option}
use Rattle.psl.specs.Syntax.{Condition, strong, weak}
use Rattle.psl.specs.Letter.{Letter, bottom, mirror}
use Rattle.psl.specs.Word.{Tail, end, tops, bottoms, Word, with_tail, mirror_tail, mir, head, behead, rest, seen, Present, Place, Holds, from}
use Rattle.psl.specs.Word.{front}
use Rattle.psl.specs.Evaluation.{first, nowhere, tail_ticks, scan}
use Rattle.psl.specs.OptionalClock.{Clock, free, on, ticks, waits, Ticks, TickUnder, SatisfiesUnder}
use Rattle.psl.proofs.Beyond.{seen_bare, from_bare}
use Rattle.psl.proofs.Mirrors.{satisfies_negation, tail_twice, mir_twice, from_mir}
use Rattle.psl.proofs.Places.{holds_present, holds?, place_below, place_first, first_of, rest_from, place_of_mir, place_in_mir}
use Rattle.psl.proofs.Tests.{and_in, and_out, or_left, or_right, or_out, imp_in, imp_out, or_false, iff_not, settle}

waits_not : (k : Clock) (l : Letter) → waits k l ≡ not (ticks k (mirror l))
waits_not free l = refl
waits_not (on c) l = satisfies_negation l c

-- the bare tail
tail_ticks_right : (k : Clock) (t : Tail) → Ticks k (head [] t) ↔ T (tail_ticks k t)
tail_ticks_right free end = (λ x. x, λ x. x)
tail_ticks_right free tops = (λ x. x, λ x. x)
tail_ticks_right free bottoms = (λ x. x, λ x. x)
tail_ticks_right (on c) end = (λ x. x, λ x. x)
tail_ticks_right (on c) tops = (λ x. x, λ x. x)
tail_ticks_right (on c) bottoms = (λ x. x, λ x. x)

tick_bottom : (c : Condition) (v : List Letter) → TickUnder (on c) (bottom ∷ v) → ⊥
tick_bottom c [] h = h
tick_bottom c (l ∷ v) h = h.0

tick_bare : (k : Clock) (t : Tail) (j : ℕ) → Place (with_tail [] t) j → TickUnder k (front (with_tail [] t) (suc j)) → T (tail_ticks k t)
tick_bare free end j p h = subst Present (seen_bare end j) p
tick_bare free tops j p h = tt
tick_bare free bottoms j p h = tt
tick_bare (on c) end j p h = tick_bottom c (front (with_tail [] end) j) h
tick_bare (on c) tops j p h = tt
tick_bare (on c) bottoms j p h = tick_bottom c (front (with_tail [] bottoms) j) h

bare_tick : (k : Clock) (t : Tail) → T (tail_ticks k t) → Place (with_tail [] t) zero × TickUnder k (front (with_tail [] t) (suc zero))
bare_tick free end x = absurd x
bare_tick free tops x = (tt, tt)
bare_tick free bottoms x = (tt, tt)
bare_tick (on c) end x = absurd x
bare_tick (on c) tops x = (tt, tt)
bare_tick (on c) bottoms x = absurd x

-- F at each tick until G at a tick
abbrev pub Until : Clock → (Word → Type 0) → (Word → Type 0) → Word → Type 0
Until k F G w = (i : ℕ) × Ticks k (seen w i) × G (from w i) × ((j : ℕ) → j < i → Ticks k (seen (mir w) j) → F (from w j))

module _ (k : Clock) (SF SG : Word → Type 0) (F G : List Letter → Bool) where
  until_bare : (t : Tail) → (SG (with_tail [] t) ↔ T (G [])) → Until k SF SG (with_tail [] t) ↔ T (tail_ticks k t && G [])
  until_bare t g = (
    λ x. and_in (tail_ticks k t) (G []) ((tail_ticks_right k t).0 (subst (Ticks k) (seen_bare t x.0) x.1)) (g.0 (subst SG (from_bare t x.0) x.2)),
    λ x. let y = and_out (tail_ticks k t) (G []) x in (zero, (tail_ticks_right k t).1 y.0, g.1 y.1, λ j h. absurd (omega arith)),
  )

  until_more : (t : Tail) → ((v : List Letter) → SF (with_tail v t) ↔ T (F v)) → ((v : List Letter) → SG (with_tail v t) ↔ T (G v))
      → (l : Letter) (v : List Letter) → Until k SF SG (with_tail v t) ↔ T (scan k F G t v) → Until k SF SG (with_tail (l ∷ v) t) ↔ T (scan k F G t (l ∷ v))
  until_more t f g l v ih = (λ x. there x.0 x.1 x.2 x.3, λ x. back (or_out A B x))
    where
      A : Bool
      A = ticks k l && G (l ∷ v)

      B : Bool
      B = (not (ticks k (mirror l)) || F (l ∷ v)) && scan k F G t v

      w : Word
      w = with_tail (l ∷ v) t

      there : (i : ℕ) → Ticks k (seen w i) → SG (from w i) → ((j : ℕ) → j < i → Ticks k (seen (mir w) j) → SF (from w j)) → T (A || B)
      there zero h s a = or_left A B (and_in (ticks k l) (G (l ∷ v)) h ((g (l ∷ v)).0 s))
      there (suc i) h s a =
          or_right A B
          (and_in (not (ticks k (mirror l)) || F (l ∷ v)) (scan k F G t v)
          (imp_in (ticks k (mirror l)) (F (l ∷ v)) (λ x. (f (l ∷ v)).0 (a zero (omega arith) x)))
          (ih.0 (i, h, s, λ j q. a (suc j) (omega arith))))

      each : (i : ℕ) → (T (ticks k (mirror l)) → SF w) → ((j : ℕ) → j < i → Ticks k (seen (mir (with_tail v t)) j) → SF (from (with_tail v t) j))
          → (j : ℕ) → j < suc i → Ticks k (seen (mir w) j) → SF (from w j)
      each i x a zero q h = x h
      each i x a (suc j) q h = a j (le_of_suc-le-suc q) h

      back : T A ⊎ T B → Until k SF SG w
      back (inl x) = let y = and_out (ticks k l) (G (l ∷ v)) x in (zero, y.0, (g (l ∷ v)).1 y.1, λ j h. absurd (omega arith))
      back (inr x) =
          let y = and_out (not (ticks k (mirror l)) || F (l ∷ v)) (scan k F G t v) x in
          let z = ih.1 y.1 in
          (suc z.0, z.1, z.2, each z.0 (λ h. (f (l ∷ v)).1 (imp_out (ticks k (mirror l)) (F (l ∷ v)) y.0 h)) z.3)

  pub until_right : (t : Tail) → ((v : List Letter) → SF (with_tail v t) ↔ T (F v)) → ((v : List Letter) → SG (with_tail v t) ↔ T (G v))
      → (v : List Letter) → Until k SF SG (with_tail v t) ↔ T (scan k F G t v)
  until_right t f g [] = until_bare t (g [])
  until_right t f g (l ∷ v) = until_more t f g l v (until_right t f g v)

-- G at the first tick
abbrev First : Clock → (Word → Type 0) → Word → Type 0
First k G w = (j : ℕ) × Place w j × TickUnder k (front w (suc j)) × G (from w j)

module _ (k : Clock) (SG : Word → Type 0) (G : List Letter → Bool) where
  first_bare : (t : Tail) → (SG (with_tail [] t) ↔ T (G [])) → First k SG (with_tail [] t) ↔ T (tail_ticks k t && G [])
  first_bare t g = (
    λ x. and_in (tail_ticks k t) (G []) (tick_bare k t x.0 x.1 x.2) (g.0 (subst SG (from_bare t x.0) x.3)),
    λ x. let y = and_out (tail_ticks k t) (G []) x in let z = bare_tick k t y.0 in (zero, z.0, z.1, g.1 y.1),
  )

  first_more : (t : Tail) → ((v : List Letter) → SG (with_tail v t) ↔ T (G v))
      → (l : Letter) (v : List Letter) → First k SG (with_tail v t) ↔ T (scan k nowhere G t v) → First k SG (with_tail (l ∷ v) t) ↔ T (scan k nowhere G t (l ∷ v))
  first_more t g l v ih = (λ x. there x.0 x.1 x.2 x.3, λ x. back (or_out A B x))
    where
      A : Bool
      A = ticks k l && G (l ∷ v)

      B : Bool
      B = (not (ticks k (mirror l)) || false) && scan k nowhere G t v

      w : Word
      w = with_tail (l ∷ v) t

      there : (j : ℕ) → Place w j → TickUnder k (front w (suc j)) → SG (from w j) → T (A || B)
      there zero p h s = or_left A B (and_in (ticks k l) (G (l ∷ v)) h ((g (l ∷ v)).0 s))
      there (suc j) p h s =
          or_right A B (and_in (not (ticks k (mirror l)) || false) (scan k nowhere G t v)
          (or_left (not (ticks k (mirror l))) false (subst T (waits_not k l) h.0)) (ih.0 (j, p, h.1, s)))

      back : T A ⊎ T B → First k SG w
      back (inl x) = let y = and_out (ticks k l) (G (l ∷ v)) x in (zero, tt, y.0, (g (l ∷ v)).1 y.1)
      back (inr x) =
          let y = and_out (not (ticks k (mirror l)) || false) (scan k nowhere G t v) x in
          let z = ih.1 y.1 in
          (suc z.0, z.1, (subst T (sym (waits_not k l)) (or_false (not (ticks k (mirror l))) y.0), z.2), z.3)

  first_right : (t : Tail) → ((v : List Letter) → SG (with_tail v t) ↔ T (G v))
      → (v : List Letter) → First k SG (with_tail v t) ↔ T (scan k nowhere G t v)
  first_right t g [] = first_bare t (g [])
  first_right t g (l ∷ v) = first_more t g l v (first_right t g v)

-- conditions
head_right : (b : Condition) (t : Tail) (v : List Letter) → Holds (seen (with_tail v t) zero) b ↔ T (first b t v)
head_right b end [] = (λ h. h, λ h. h)
head_right b tops [] = (λ h. h, λ h. h)
head_right b bottoms [] = (λ h. h, λ h. h)
head_right b t (l ∷ v) = (λ h. h, λ h. h)

pub strong_right : (k : Clock) (b : Condition) (t : Tail) (v : List Letter) → SatisfiesUnder k (strong b) (with_tail v t) ↔ T (scan k nowhere (first b t) t v)
strong_right k b t v =
    let e = first_right k (λ w. Holds (seen w zero) b) (first b t) t (head_right b t) v in (
      λ x. e.0 (
        x.0,
        holds_present (seen (with_tail v t) x.0) b x.2,
        x.1,
        subst (λ (o : Option Letter). Holds o b)
            (sym (first_of x.0 (with_tail v t))) x.2,
      ),
      λ x. let y = e.1 x in (y.0, y.2, subst (λ (o : Option Letter). Holds o b) (first_of y.0 (with_tail v t)) y.3),
    )

module _ (k : Clock) (b : Condition) (t : Tail) where
  abbrev Fails : Word → Type 0
  Fails w = Holds (seen (mir w) zero) b → ⊥

  fails_right : (u : List Letter) → Fails (with_tail u (mirror_tail t)) ↔ T (not (first b t (map mirror u)))
  fails_right u = iff_not (first b t (map mirror u))
      (subst (λ (s : Tail). Holds (seen (with_tail (map mirror u) s) zero) b ↔ T (first b t (map mirror u))) (sym (tail_twice t)) (head_right b t (map mirror u)))

  at_again : (w : Word) (j : ℕ) → seen (mir (from (mir w) j)) zero ≡ seen w j
  at_again w j = ap (λ (x : Word). seen (mir x) zero) (from_mir j w) ∙ ap (λ (x : Word). seen x zero) (mir_twice (from w j)) ∙ first_of j w

  pub weak_right : (v : List Letter)
      → SatisfiesUnder k (weak b) (with_tail v t) ↔ T (not (scan k nowhere (λ u. not (first b t (map mirror u))) (mirror_tail t) (map mirror v)))
  weak_right v = (λ s. iff.0 (λ x. there s x.0 x.1 x.2 x.3), λ h j p q. settle (holds? (seen w j) b) (back (iff.1 h) j p q))
    where
      w : Word
      w = with_tail v t

      iff : (First k Fails (mir w) → ⊥) ↔ T (not (scan k nowhere (λ u. not (first b t (map mirror u))) (mirror_tail t) (map mirror v)))
      iff = iff_not _ (first_right k Fails (λ u. not (first b t (map mirror u))) (mirror_tail t) fails_right (map mirror v))

      there : SatisfiesUnder k (weak b) w → (j : ℕ) → Place (mir w) j → TickUnder k (front (mir w) (suc j)) → Fails (from (mir w) j) → ⊥
      there s j p q n = n (subst (λ (o : Option Letter). Holds o b) (sym (at_again w j)) (s j (place_of_mir w j p) q))

      back : (First k Fails (mir w) → ⊥) → (j : ℕ) → Place w j → TickUnder k (front (mir w) (suc j)) → (Holds (seen w j) b → ⊥) → ⊥
      back n j p q m = n (j, place_in_mir w j p, q, λ h. m (subst (λ (o : Option Letter). Holds o b) (at_again w j) h))

before : (w : Word) (i j : ℕ) → Place (from w (suc i)) j → Place w i
before w i j p = place_below i (suc i) w (omega arith) (subst Present (first_of (suc i) w) (place_first j (from w (suc i)) p))

pub next_right : (k : Clock) (S : Word → Type 0) (E : List Letter → Bool) (t : Tail) → ((v : List Letter) → S (with_tail v t) ↔ T (E v)) → (v : List Letter)
    → ((i : ℕ) × (j : ℕ) × TickUnder k (front (with_tail v t) (suc i)) × Place (from (with_tail v t) (suc i)) j × TickUnder k
    (front (from (with_tail v t) (suc i)) (suc j)) × S (from (from (with_tail v t) (suc i)) j))
    ↔ T (scan k nowhere (λ u. scan k nowhere E t (behead u)) t v)
next_right k S E t e v =
    let i = first_right k (λ w. First k S (rest w)) (λ u. scan k nowhere E t (behead u)) t (λ u. first_right k S E t e (behead u)) v in (
      λ x. i.0 (
        x.0,
        before (with_tail v t) x.0 x.1 x.3,
        x.2,
        subst (λ (w : Word). First k S w) (rest_from (with_tail v t) x.0)
            (x.1, x.3, x.4, x.5),
      ),
      λ x.
          let y = i.1 x in
          let z : First k S (from (with_tail v t) (suc y.0)) = subst (λ (w : Word). First k S w) (sym (rest_from (with_tail v t) y.0)) y.3 in
          (y.0, z.0, y.2, z.1, z.2, z.3),
    )
