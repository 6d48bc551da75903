-- The meaning is decidable, under a clock and free of one, on words of each shape.
use Rattle.std.proofs.Common.{◌≡◌, ℕ, zero, suc, ◌<◌, ◌≤◌, Bool, ◌&&◌, T, ◌↔◌, List, [], ◌∷◌, ◌++◌, length, take, sym, refl, ◌∙◌, subst, le_of_suc-le-suc, not-suc-le-zero, arith}
use mathlib.Core.Option.{Option, none, some}
use mathlib.Core.Path.{subst⁻¹}
use lib.ListN.{length-map}
use Rattle.psl.specs.Syntax.{Condition, Sequence, Formula, strong, weak, strong_sequence, weak_sequence, negated, conjoined, next, until, abort}
use Rattle.psl.specs.Syntax.{implies, formula_at}
use Rattle.psl.specs.Letter.{Letter, mirror}
use Rattle.psl.specs.Word.{Tail, end, tops, bottoms, Word, with_tail, with_tops, mir, seen, Place, Holds, from, front}
use Rattle.psl.specs.Automaton.{states, State, final, step, any, accepts, Completes, run_of_tops}
use Rattle.psl.specs.Evaluation.{is_tops}
use Rattle.psl.specs.OptionalClock.{Clock, on, ticks, waits, Ticks, TickUnder, MatchesUnder, StartsUnder, SatisfiesUnder}
use Rattle.psl.specs.Order.{topped}
use Rattle.psl.proofs.Accept.{any_in, any_out, accepts_right, completes_right}
use Rattle.psl.proofs.Alike.{Alike, alike_satisfies}
use Rattle.psl.proofs.Beyond.{from_past, seen_past}
use Rattle.psl.proofs.Enough.{tops_enough_lem, tops_after}
use Rattle.psl.proofs.Longest.{weak_longest}
use Rattle.psl.proofs.Places.{holds_present, place?, holds?, place_below, place_first, first_of}
use Rattle.psl.proofs.Reach.{Reach, reach_parts, Breaks, implies_unbroken}
use Rattle.psl.proofs.Tests.{and_in, and_out, dec_T, dec_iff, dec_and, dec_or, dec_imp, dec_not, dec_some_below, dec_all_below, dec_some, dec_all}

pub matches? : (k : Clock) (r : Sequence) (v : List Letter) → Dec (MatchesUnder k r v)
matches? k r v = dec_iff (accepts_right k r v) (dec_T (accepts k r v))

-- some number, if then one below n
bounded? : (n : ℕ) (P : ℕ → Type 0) → ((j : ℕ) → Dec (P j)) → (((j : ℕ) × P j) → (j : ℕ) × (j < n) × P j) → Dec ((j : ℕ) × P j)
bounded? n P d f = dec_iff (f, λ (j, h, x). (j, x)) (dec_some_below n P d)

beyond? : (k : Clock) (r : Sequence) (v : List Letter) → Dec ((m : ℕ) × MatchesUnder k r (v ++ run_of_tops (suc m)))
beyond? k r v = bounded? (states k r) (λ m. MatchesUnder k r (v ++ run_of_tops (suc m))) (λ m. matches? k r (v ++ run_of_tops (suc m))) (tops_after k r v)

reach? : (k : Clock) (r : Sequence) (S : Word → Type 0) → ((x : Word) → Dec (S x)) → (w : Word) → Dec (Reach k r S w)
reach? k r S d w =
    let v = w.letters in
    let t = w.tail in
    dec_iff (reach_parts k r S v t)
    (dec_or
    (dec_some_below (length v) (λ j. MatchesUnder k r (take (suc j) v) × S (from w j)) (λ j. dec_and (matches? k r (take (suc j) v)) (d (from w j))))
    (dec_and (dec_T (is_tops t)) (dec_and (beyond? k r v) (d (with_tail [] t)))))

starts? : (k : Clock) (r : Sequence) (w : Word) → Dec (StartsUnder k r w)
starts? k r w = dec_iff ((λ (j, p, m). (j, p, m, tt)), (λ (j, p, m, x). (j, p, m))) (reach? k r (λ x. Unit {0}) (λ x. yes tt) w)

ticks? : (k : Clock) (x : Option Letter) → Dec (Ticks k x)
ticks? k none = no (λ h. h)
ticks? k (some l) = dec_T (ticks k l)

tick? : (k : Clock) (v : List Letter) → Dec (TickUnder k v)
tick? k [] = no (λ x. x)
tick? k (l ∷ []) = dec_T (ticks k l)
tick? k (l ∷ (m ∷ v)) = dec_and (dec_T (waits k l)) (tick? k (m ∷ v))

-- from a state
abbrev completes_test : (k : Clock) (r : Sequence) → List Letter → State k r → Bool
completes_test k r [] p = final k r p
completes_test k r (l ∷ v) p = any k r (λ q. step k r l p q && completes_test k r v q)

completes_tested : (k : Clock) (r : Sequence) (v : List Letter) (p : State k r) → Completes k r p v ↔ T (completes_test k r v p)
completes_tested k r [] p = (λ x. x, λ x. x)
completes_tested k r (l ∷ v) p = (
  (λ (q, s, y).
      any_in k r (λ q. step k r l p q && completes_test k r v q) q (and_in (step k r l p q) (completes_test k r v q) s ((completes_tested k r v q).0 y))),
  (λ x.
      let (q, y) = any_out k r (λ q. step k r l p q && completes_test k r v q) x in
      let (s, z) = and_out (step k r l p q) (completes_test k r v q) y in
      (q, s, (completes_tested k r v q).1 z)),
)

pub tops? : (k : Clock) (r : Sequence) (p : State k r) → Dec ((n : ℕ) × Completes k r p (run_of_tops (suc n)))
tops? k r p =
    bounded? (states k r) (λ n. Completes k r p (run_of_tops (suc n)))
    (λ n. dec_iff (completes_tested k r (run_of_tops (suc n)) p) (dec_T (completes_test k r (run_of_tops (suc n)) p)))
    (λ (n, x).
    let (m, h, y) = tops_enough_lem k r p (n, (completes_right k r p (run_of_tops (suc n))).1 x) in
    (m, h, (completes_right k r p (run_of_tops (suc m))).0 y))

-- past its letters a word stays as it is
from_same : (w : Word) (n j : ℕ) → length w.letters ≤ n → n ≤ j → from w j ≡ from w n
from_same w n j h i = from_past w.letters w.tail j (omega arith) ∙ sym (from_past w.letters w.tail n h)

seen_same : (w : Word) (n j : ℕ) → length w.letters ≤ n → n ≤ j → seen w j ≡ seen w n
seen_same w n j h i = seen_past w.letters w.tail j (omega arith) ∙ sym (seen_past w.letters w.tail n h)

tick_past : (k : Clock) (v : List Letter) (t : Tail) (j : ℕ) → length v ≤ j
    → TickUnder k (front (with_tail v t) (suc j)) → TickUnder k (front (with_tail v t) (suc (length v)))
tick_past k [] t zero h x = x
tick_past k [] t (suc j) h x = tick_past k [] t j (omega arith) x.1
tick_past k (l ∷ v) t zero h x = absurd (not-suc-le-zero h)
tick_past k (l ∷ v) t (suc j) h x = (x.0, tick_past k v t j (le_of_suc-le-suc h) x.1)

mir_tick_past : (k : Clock) (w : Word) (j : ℕ) → length w.letters ≤ j
    → TickUnder k (front (mir w) (suc j)) → TickUnder k (front (mir w) (suc (length w.letters)))
mir_tick_past k w j h x =
    let e = length-map w.letters mirror in
    subst (λ n. TickUnder k (front (mir w) (suc n))) e (tick_past k (mir w).letters (mir w).tail j (omega (arith, e)) x)

-- a tick, and S where it ends
abbrev TickThen : Clock → (Word → Type 0) → Word → Type 0
TickThen k S w = (j : ℕ) × (Place w j × (TickUnder k (front w (suc j)) × S (from w j)))

tick_then? : (k : Clock) (S : Word → Type 0) → ((x : Word) → Dec (S x)) → (w : Word) → Dec (TickThen k S w)
tick_then? k S d w =
    let n = length w.letters in
    dec_some n (λ j. Place w j × (TickUnder k (front w (suc j)) × S (from w j)))
    (λ j. dec_and (place? (seen w j)) (dec_and (tick? k (front w (suc j))) (d (from w j))))
    (λ j h (p, (t, s)). (place_below n j w h p, (tick_past k w.letters w.tail j h t, subst S (from_same w n j (omega arith) h) s)))

strong? : (k : Clock) (b : Condition) (w : Word) → Dec (SatisfiesUnder k (strong b) w)
strong? k b w =
    dec_iff (
      (λ (j, t, h). (j, (holds_present (seen w j) b h, (t, subst⁻¹ (λ o. Holds o b) (first_of j w) h)))),
      (λ (j, (p, (t, h))). (j, t, subst (λ o. Holds o b) (first_of j w) h)),
    ) (tick_then? k (λ x. Holds (seen x zero) b) (λ x. holds? (seen x zero) b) w)

weak? : (k : Clock) (b : Condition) (w : Word) → Dec (SatisfiesUnder k (weak b) w)
weak? k b w =
    let n = length w.letters in
    dec_all n (λ j. Place w j → TickUnder k (front (mir w) (suc j)) → Holds (seen w j) b)
    (λ j. dec_imp (place? (seen w j)) (dec_imp (tick? k (front (mir w) (suc j))) (holds? (seen w j) b)))
    (λ j h s p t. subst⁻¹ (λ o. Holds o b) (seen_same w n j (omega arith) h) (s (place_below n j w h p) (mir_tick_past k w j h t)))

weak_sequence? : (k : Clock) (r : Sequence) (w : Word) → Dec (SatisfiesUnder k (weak_sequence r) w)
weak_sequence? k r w =
    elim (place? (seen w zero)) [
      | yes p ↦ dec_iff (weak_longest k r w p) (starts? k r (topped w))
      | no n ↦ yes (λ j p. absurd (n (place_first j w p)))
    ]

next? : (k : Clock) (S : Word → Type 0) → ((x : Word) → Dec (S x)) → (w : Word)
    → Dec ((i : ℕ) × (j : ℕ) × TickUnder k (front w (suc i)) × Place (from w (suc i)) j × TickUnder k (front (from w (suc i)) (suc j)) × S
    (from (from w (suc i)) j))
next? k S d w =
    let n = length w.letters in
    dec_iff ((λ (i, j, t, p, u, s). (i, (t, (j, (p, (u, s)))))), (λ (i, (t, (j, (p, (u, s))))). (i, j, t, p, u, s)))
    (dec_some n (λ i. TickUnder k (front w (suc i)) × TickThen k S (from w (suc i)))
    (λ i. dec_and (tick? k (front w (suc i))) (tick_then? k S d (from w (suc i))))
    (λ i h (t, s). (tick_past k w.letters w.tail i h t, subst (TickThen k S) (from_same w (suc n) (suc i) (omega arith) (omega arith)) s)))

until? : (k : Clock) (F G : Word → Type 0) → ((x : Word) → Dec (F x)) → ((x : Word) → Dec (G x)) → (w : Word)
    → Dec ((i : ℕ) × Ticks k (seen w i) × G (from w i) × ((j : ℕ) → j < i → Ticks k (seen (mir w) j) → F (from w j)))
until? k F G df dg w =
    let n = length w.letters in
    dec_iff ((λ (i, t, s, b). (i, (t, (s, b)))), (λ (i, (t, (s, b))). (i, t, s, b)))
    (dec_some n (λ i. Ticks k (seen w i) × (G (from w i) × ((j : ℕ) → j < i → Ticks k (seen (mir w) j) → F (from w j))))
    (λ i. dec_and (ticks? k (seen w i))
    (dec_and (dg (from w i)) (dec_all_below i (λ j. Ticks k (seen (mir w) j) → F (from w j)) (λ j. dec_imp (ticks? k (seen (mir w) j)) (df (from w j))))))
    (λ i h (t, (s, b)). (subst (Ticks k) (seen_same w n i (omega arith) h) t, (subst G (from_same w n i (omega arith) h) s, λ j q. b j (omega arith)))))

-- where tops follow, so they do after each prefix that is long enough
tops_alike : (v : List Letter) (m : ℕ) → length v ≤ m → Alike (with_tops (front (with_tops v) m)) (with_tops v)
tops_alike [] zero h i = refl
tops_alike [] (suc m) h zero = refl
tops_alike [] (suc m) h (suc i) = tops_alike [] m (omega arith) i
tops_alike (l ∷ v) zero h i = absurd (not-suc-le-zero h)
tops_alike (l ∷ v) (suc m) h zero = refl
tops_alike (l ∷ v) (suc m) h (suc i) = tops_alike v m (le_of_suc-le-suc h) i

abort_past : (k : Clock) (f : Formula) (b : Condition) (v : List Letter) (t : Tail) (j : ℕ) → length v ≤ j → Holds (seen (with_tail v t) j) b
    → SatisfiesUnder k f (with_tops (front (with_tail v t) j)) → SatisfiesUnder k f (with_tops (front (with_tail v t) (length v)))
abort_past k f b v end j h x s = absurd (subst (λ o. Holds o b) (seen_past v end j h) x)
abort_past k f b v bottoms j h x s = absurd (subst (λ o. Holds o b) (seen_past v bottoms j h) x)
abort_past k f b v tops j h x s =
    alike_satisfies k f (with_tops (front (with_tops v) j)) (with_tops (front (with_tops v) (length v)))
    (λ i. tops_alike v j h i ∙ sym (tops_alike v (length v) (omega arith) i)) s

pub decide : (k : Clock) (f : Formula) (w : Word) → Dec (SatisfiesUnder k f w)
decide k (strong b) w = strong? k b w
decide k (weak b) w = weak? k b w
decide k (strong_sequence r) w = starts? k r w
decide k (weak_sequence r) w = weak_sequence? k r w
decide k (negated f) w = dec_not (decide k f (mir w))
decide k (conjoined f g) w = dec_and (decide k f w) (decide k g w)
decide k (next f) w = next? k (SatisfiesUnder k f) (decide k f) w
decide k (until f g) w = until? k (SatisfiesUnder k f) (SatisfiesUnder k g) (decide k f) (decide k g) w
decide k (abort f b) w =
    let n = length w.letters in
    dec_or (decide k f w)
    (dec_iff ((λ (j, h, s). (j, (h, s))), (λ (j, (h, s)). (j, h, s)))
    (dec_some n (λ j. Holds (seen w j) b × SatisfiesUnder k f (with_tops (front w j)))
    (λ j. dec_and (holds? (seen w j) b) (decide k f (with_tops (front w j))))
    (λ j h (x, s). (subst (λ o. Holds o b) (seen_same w n j (omega arith) h) x, abort_past k f b w.letters w.tail j h x s))))
decide k (implies r f) w =
    dec_iff (implies_unbroken k r f w (λ j. decide k f (from w j)))
    (dec_not (reach? k r (Breaks k r f w) (λ x. dec_not (decide k f (mir x))) (mir w)))
decide k (formula_at f d) w = decide (on d) f w
