-- Stretches of a word and ticks in them: the shapes front and Tick against the literal wording.
use Rattle.std.proofs.Common.{◌≡◌, ℕ, zero, suc, ◌-◌, ◌<◌, ◌≤◌, T, ◌↔◌, List, [], ◌∷◌, ◌++◌, length, get_or, sym, refl, ap, ◌∙◌, subst, le_of_suc-le-suc, not-suc-le-zero, arith}
use mathlib.Core.Option.{Option, none, some}
use Rattle.psl.specs.Syntax.{Condition, negation}
use Rattle.psl.specs.Letter.{Letter, bottom, satisfies}
use Rattle.psl.specs.Word.{Word, rest, seen, Present, Place, Holds, from, or_bottom, front, Tick}
use Rattle.psl.specs.Literal.{Stretch, LiteralTick, TickFromTo}
use Rattle.psl.proofs.Places.{holds_present, place_below, seen_from, length_front, front_at, front_only}

-- a prefix of letters that are there
pub stretch_front : (w : Word) (i n : ℕ) → ((m : ℕ) → m < n → Place (from w i) m) → Stretch w i n (front (from w i) n)
stretch_front w i n p = (length_front n (from w i), λ m h. sym (seen_from w i m) ∙ front_at n m (from w i) h (p m h))

pub stretch_only : (w : Word) (i n : ℕ) (v : List Letter) → Stretch w i n v → v ≡ front (from w i) n
stretch_only w i n v (e, h) = front_only n (from w i) v e (λ m k. seen_from w i m ∙ h m k)

-- at a place j
pub stretch_at : (w : Word) (j n : ℕ) → Place w j → n ≤ suc j → Stretch w 0 n (front w n)
stretch_at w j n p h = stretch_front w 0 n (λ m k. place_below m j w (omega arith) p)

pub stretch_place : (w : Word) (j : ℕ) (v : List Letter) → Stretch w 0 (suc j) v → Place w j
stretch_place w j v (e, h) = let here : seen w j ≡ some (get_or v j bottom) = seen_from w 0 j ∙ h j (omega arith) in subst Present (sym here) tt

pub prefix : (w : Word) (j n : ℕ) → Place w j → n ≤ suc j → (v : List Letter) → Stretch w 0 n v ↔ (v ≡ front w n)
prefix w j n p h v = (
  stretch_only w 0 n v,
  λ e. subst (Stretch w 0 n) (sym e) (stretch_at w j n p h),
)

-- ticks
pub tick_to : (c : Condition) (v : List Letter) → Tick c v → LiteralTick c v
tick_to c [] t = absurd t
tick_to c (l ∷ []) t = ([], l, refl, t, λ m h. absurd (not-suc-le-zero h))
tick_to c (l ∷ (k ∷ v)) (a, t) = let (u, x, e, h, f) = tick_to c (k ∷ v) t in (l ∷ u, x, ap (λ y. l ∷ y) e, h, earlier u f)
  where
    earlier : (u : List Letter) → ((m : ℕ) → m < length u → T (satisfies (get_or u m bottom) (negation c)))
        → (m : ℕ) → m < length (l ∷ u) → T (satisfies (get_or (l ∷ u) m bottom) (negation c))
    earlier u f zero h = a
    earlier u f (suc m) h = f m (le_of_suc-le-suc h)

tick_made : (c : Condition) (u : List Letter) (l : Letter) → T (satisfies l c)
    → ((m : ℕ) → m < length u → T (satisfies (get_or u m bottom) (negation c))) → Tick c (u ++ (l ∷ []))
tick_made c [] l h f = h
tick_made c (x ∷ []) l h f = (f zero (omega arith), h)
tick_made c (x ∷ (y ∷ u)) l h f = (f zero (omega arith), tick_made c (y ∷ u) l h (λ m i. f (suc m) (omega arith)))

pub tick : (c : Condition) (v : List Letter) → Tick c v ↔ LiteralTick c v
tick c v = (tick_to c v, λ (u, l, e, h, f). subst (Tick c) (sym e) (tick_made c u l h f))

-- the last letter of a tick stands there, since bottom satisfies nothing
pub letter_holds : (x : Option Letter) (c : Condition) → T (satisfies (or_bottom x) c) → Holds x c
letter_holds none c h = h
letter_holds (some l) c h = h

pub tick_last : (c : Condition) (j : ℕ) (w : Word) → Tick c (front w (suc j)) → Holds (seen w j) c
tick_last c zero w t = letter_holds (seen w zero) c t
tick_last c (suc j) w t = tick_last c j (rest w) t.1

pub tick_place : (c : Condition) (j : ℕ) (w : Word) → Tick c (front w (suc j)) → Place w j
tick_place c j w t = holds_present (seen w j) c (tick_last c j w t)

-- a tick of k + 1 letters from place i on
pub tick_part : (c : Condition) (w : Word) (i j k : ℕ) → suc j - i ≡ suc k → Tick c (front (from w i) (suc k)) ↔ TickFromTo c w i j
tick_part c w i j k e = (
  (λ t. (
    front (from w i) (suc k),
    subst (λ n. Stretch w i n (front (from w i) (suc k))) (sym e)
        (stretch_front w i (suc k) (λ m h. place_below m k (from w i) (omega arith) (tick_place c k (from w i) t))),
    tick_to c (front (from w i) (suc k)) t,
  )),
  (λ (v, s, t). subst (Tick c) (stretch_only w i (suc k) v (subst (λ n. Stretch w i n v) e s)) ((tick c v).1 t)),
)
