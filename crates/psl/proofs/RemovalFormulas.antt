-- Clock removal on formulas: they are satisfied by the same words.
use mathlib.Core.Option.{Option, none, some}
use Rattle.std.proofs.Common.{ℕ, zero, suc, ◌<◌, T, ◌↔◌, subst, inl, inr, le_of_suc-le-suc, not-suc-le-zero, arith}
use mathlib.Core.Path.{subst⁻¹}
use Rattle.psl.specs.Syntax.{Condition, negation, conjunction, Formula, strong, weak, strong_sequence, weak_sequence, negated, conjoined, next}
use Rattle.psl.specs.Syntax.{until, abort, implies, formula_at}
use Rattle.psl.specs.Letter.{Letter, satisfies}
use Rattle.psl.specs.Word.{Word, mir, rest, seen, Place, Holds, from, or_bottom, front}
use Rattle.psl.specs.Removal.{after_waiting, unclock}
use Rattle.psl.specs.OptionalClock.{free, on, TickUnder, SatisfiesUnder}
use Rattle.psl.proofs.Bottomless.{ticking_place}
use Rattle.psl.proofs.Decide.{decide}
use Rattle.psl.proofs.Mirrors.{mir_twice, not_both, one_of, seen_mir_from}
use Rattle.psl.proofs.Places.{place_first, first_of, rest_from, seen_mir, place_of_mir}
use Rattle.psl.proofs.RemovalMatches.{conjoin, conjoin_left, conjoin_right, removal_matches}
use Rattle.psl.proofs.Same.{iff_both, starts_same, weakly_same, negated_same, abort_same, implies_same}
use Rattle.psl.proofs.Tests.{settle}
use Rattle.psl.proofs.Ticks.{free_strong, free_next, ticks_present, free_until, ticks_holds}
use Rattle.psl.proofs.Stretches.{letter_holds}

-- ticks by places
holds_letter : (x : Option Letter) (b : Condition) → Holds x b → T (satisfies (or_bottom x) b)
holds_letter none b h = h
holds_letter (some l) b h = h

below_suc : (P : ℕ → Type 0) (n : ℕ) → P zero → ((i : ℕ) → i < n → P (suc i)) → (i : ℕ) → i < suc n → P i
below_suc P n z s zero h = z
below_suc P n z s (suc i) h = s i (le_of_suc-le-suc h)

tick_last : (c : Condition) (j : ℕ) (w : Word) → TickUnder (on c) (front w (suc j)) → Holds (seen w j) c
tick_last c zero w t = letter_holds (seen w zero) c t
tick_last c (suc j) w t = tick_last c j (rest w) t.1

tick_early : (c : Condition) (j : ℕ) (w : Word) → TickUnder (on c) (front w (suc j)) → (i : ℕ) → i < j → Holds (seen w i) (negation c)
tick_early c zero w t i h = absurd (not-suc-le-zero h)
tick_early c (suc j) w t i h = below_suc (λ k. Holds (seen w k) (negation c)) j (letter_holds (seen w zero) (negation c) t.0) (tick_early c j (rest w) t.1) i h

tick_made : (c : Condition) (j : ℕ) (w : Word) → Holds (seen w j) c → ((i : ℕ) → i < j → Holds (seen w i) (negation c)) → TickUnder (on c) (front w (suc j))
tick_made c zero w h k = holds_letter (seen w zero) c h
tick_made c (suc j) w h k = (holds_letter (seen w zero) (negation c) (k zero (omega arith)), tick_made c j (rest w) h (λ i q. k (suc i) (omega arith)))

-- two conditions of one letter
both_to : (c b : Condition) (x : Option Letter) → Holds x c × Holds x b → Holds x (conjunction c b)
both_to c b none h = h.0
both_to c b (some l) h = conjoin l c b h.0 h.1

both_from : (c b : Condition) (x : Option Letter) → Holds x (conjunction c b) → Holds x c × Holds x b
both_from c b none h = absurd h
both_from c b (some l) h = (conjoin_left l c b h, conjoin_right l c b h)

-- g where the first tick of c ends: (not c)! U (c! and g)
abbrev at_tick : Condition → Formula → Formula
at_tick c g = after_waiting c (conjoined (strong c) g)

to_tick : (c : Condition) (g : Formula) (w : Word) (j : ℕ) → TickUnder (on c) (front w (suc j)) → SatisfiesUnder free g (from w j)
    → SatisfiesUnder free (at_tick c g) w
to_tick c g w j t s =
    (free_until (strong (negation c)) (conjoined (strong c) g) w).1 (
      j,
      ticking_place c j w t,
      ((free_strong c (from w j)).1 (rw (first_of j w) (tick_last c j w t)), s),
      λ i h. (free_strong (negation c) (from w i)).1 (rw (first_of i w) (tick_early c j w t i h)),
    )

from_tick : (c : Condition) (g : Formula) (w : Word) → SatisfiesUnder free (at_tick c g) w
    → (j : ℕ) × TickUnder (on c) (front w (suc j)) × SatisfiesUnder free g (from w j)
from_tick c g w x =
    let (j, p, (h, s), k) = (free_until (strong (negation c)) (conjoined (strong c) g) w).0 x in
    let h' : Holds (seen (from w j) zero) c = (free_strong c (from w j)).0 h in
    (j, tick_made c j w (rw (first_of j w) at h') (λ i q. rw (first_of i w) at ((free_strong (negation c) (from w i)).0 (k i q))), s)

-- (not c)! U (c! and b!) is (not c)! U (c and b)!
to_both : (c b : Condition) (w : Word) → SatisfiesUnder free (at_tick c (strong b)) w
    → SatisfiesUnder free (after_waiting c (strong (conjunction c b))) w
to_both c b w (j, t, (h, k), n) =
    (j, t, (free_strong (conjunction c b) (from w j)).1 (both_to c b (seen (from w j) zero) ((free_strong c (from w j)).0 h, (free_strong b (from w j)).0 k)), n)

from_both : (c b : Condition) (w : Word) → SatisfiesUnder free (after_waiting c (strong (conjunction c b))) w
    → SatisfiesUnder free (at_tick c (strong b)) w
from_both c b w (j, t, h, n) =
    let p = both_from c b (seen (from w j) zero) ((free_strong (conjunction c b) (from w j)).0 h) in
    (j, t, ((free_strong c (from w j)).1 p.0, (free_strong b (from w j)).1 p.1), n)

-- a condition at the first tick
strong_to : (c b : Condition) (w : Word) (j : ℕ) → TickUnder (on c) (front w (suc j)) → Holds (seen w j) b
    → SatisfiesUnder free (after_waiting c (strong (conjunction c b))) w
strong_to c b w j t h = to_both c b w (to_tick c (strong b) w j t ((free_strong b (from w j)).1 (rw (first_of j w) h)))

strong_from : (c b : Condition) (w : Word) → SatisfiesUnder free (after_waiting c (strong (conjunction c b))) w
    → (j : ℕ) × TickUnder (on c) (front w (suc j)) × Holds (seen w j) b
strong_from c b w x =
    let (j, t, h) = from_tick c (strong b) w (from_both c b w x) in
    (j, t, rw (first_of j w) at ((free_strong b (from w j)).0 h))

-- X!
next_to : (c : Condition) (g : Formula) (w : Word) (j k : ℕ) → TickUnder (on c) (front w (suc j)) → TickUnder (on c) (front (from w (suc j)) (suc k))
    → SatisfiesUnder free g (from (from w (suc j)) k)
    → SatisfiesUnder free (at_tick c (next (at_tick c g))) w
next_to c g w j k t u s =
    to_tick c (next (at_tick c g)) w j t ((free_next (at_tick c g) (from w j)).1
    (subst (λ x. Place x zero × SatisfiesUnder free (at_tick c g) x) (rest_from w j)
    (place_first k (from w (suc j)) (ticking_place c k (from w (suc j)) u), to_tick c g (from w (suc j)) k u s)))

next_from : (c : Condition) (g : Formula) (w : Word) → SatisfiesUnder free (at_tick c (next (at_tick c g))) w
    → (j : ℕ) × (k : ℕ) × TickUnder (on c) (front w (suc j)) × TickUnder (on c) (front (from w (suc j)) (suc k)) × SatisfiesUnder free g (from (from w (suc j)) k)
next_from c g w x =
    let (j, t, y) = from_tick c (next (at_tick c g)) w x in
    let (k, u, s) = from_tick c g (from w (suc j)) (subst⁻¹ (SatisfiesUnder free (at_tick c g)) (rest_from w j) ((free_next (at_tick c g) (from w j)).0 y).1) in
    (j, k, t, u, s)

-- a weak condition, by the mirror
weak_to : (c b : Condition) (w : Word) → SatisfiesUnder (on c) (weak b) w → SatisfiesUnder free (unclock c (weak b)) w
weak_to c b w s x =
    let (j, t, h) = strong_from c (negation b) (mir w) x in
    not_both (seen w j) b (s j (place_of_mir w j (ticking_place c j (mir w) t)) t) (rw (seen_mir w j) at h)

weak_from : (c b : Condition) (w : Word) → SatisfiesUnder free (unclock c (weak b)) w → SatisfiesUnder (on c) (weak b) w
weak_from c b w n j p t =
    elim (one_of (seen w j) b p) [
      | inl h ↦ h
      | inr h ↦ absurd (n (strong_to c (negation b) (mir w) j t (rw (seen_mir w j) h)))
    ]

-- U
until_to : (c : Condition) (f g f' g' : Formula) (w : Word) → ((x : Word) → SatisfiesUnder (on c) f x → SatisfiesUnder free f' x)
    → ((x : Word) → SatisfiesUnder (on c) g x → SatisfiesUnder free g' x)
    → SatisfiesUnder (on c) (until f g) w → SatisfiesUnder free (until (negated (conjoined (strong c) (negated f'))) (conjoined (strong c) g')) w
until_to c f g f' g' w hf hg (k, h, s, b) =
    (free_until (negated (conjoined (strong c) (negated f'))) (conjoined (strong c) g') w).1 (
      k,
      ticks_present (on c) (seen w k) h,
      ((free_strong c (from w k)).1 (rw (first_of k w) ((ticks_holds c (seen w k)).0 h)), hg (from w k) s),
      λ j i (q, n). n (rw (mir_twice (from w j))
          (hf (from w j) (b j i ((ticks_holds c (seen (mir w) j)).1 (rw (seen_mir_from j w) at ((free_strong c (mir (from w j))).0 q)))))),
    )

until_from : (c : Condition) (f g f' g' : Formula) (w : Word) → ((x : Word) → SatisfiesUnder free f' x → SatisfiesUnder (on c) f x)
    → ((x : Word) → SatisfiesUnder free g' x → SatisfiesUnder (on c) g x)
    → SatisfiesUnder free (until (negated (conjoined (strong c) (negated f'))) (conjoined (strong c) g')) w → SatisfiesUnder (on c) (until f g) w
until_from c f g f' g' w hf hg x =
    let (k, p, (h, s), b) = (free_until (negated (conjoined (strong c) (negated f'))) (conjoined (strong c) g') w).0 x in (
      k,
      (ticks_holds c (seen w k)).1 (rw (first_of k w) at ((free_strong c (from w k)).0 h)),
      hg (from w k) s,
      λ j i q. settle (decide (on c) f (from w j))
          (λ n. b j i (
            (free_strong c (mir (from w j))).1 (rw (seen_mir_from j w) ((ticks_holds c (seen (mir w) j)).0 q)),
            λ y. n
                (hf (from w j) (rw (mir_twice (from w j)) at y)),
          )),
    )

pub clock_removal_lem : (c : Condition) (f : Formula) (w : Word) → SatisfiesUnder (on c) f w ↔ SatisfiesUnder free (unclock c f) w
clock_removal_lem c (strong b) w = ((λ (j, t, h). strong_to c b w j t h), strong_from c b w)
clock_removal_lem c (weak b) w = (weak_to c b w, weak_from c b w)
clock_removal_lem c (strong_sequence r) w = starts_same (removal_matches c r) w
clock_removal_lem c (weak_sequence r) w = weakly_same (removal_matches c r) w
clock_removal_lem c (negated f) w = negated_same (clock_removal_lem c f) w
clock_removal_lem c (conjoined f g) w = iff_both (clock_removal_lem c f w) (clock_removal_lem c g w)
clock_removal_lem c (next f) w = (
  (λ (j, k, t, p, u, s). next_to c (unclock c f) w j k t u ((clock_removal_lem c f (from (from w (suc j)) k)).0 s)),
  (λ x.
      let (j, k, t, u, s) = next_from c (unclock c f) w x in
      (j, k, t, ticking_place c k (from w (suc j)) u, u, (clock_removal_lem c f (from (from w (suc j)) k)).1 s)),
)
clock_removal_lem c (until f g) w = (
  until_to c f g (unclock c f) (unclock c g) w (λ x. (clock_removal_lem c f x).0) (λ x. (clock_removal_lem c g x).0),
  until_from c f g (unclock c f) (unclock c g) w (λ x. (clock_removal_lem c f x).1) (λ x. (clock_removal_lem c g x).1),
)
clock_removal_lem c (abort f b) w = abort_same (clock_removal_lem c f) b w
clock_removal_lem c (implies r f) w = implies_same (removal_matches c r) (clock_removal_lem c f) w
clock_removal_lem c (formula_at f d) w = clock_removal_lem d f w
