-- Under a clock the one meaning is the clocked meaning.
use Rattle.std.proofs.Common.{suc, ◌↔◌, [], ◌∷◌}
use Rattle.psl.specs.Syntax.{Condition, Sequence, condition, concat, fusion, either, both, empty, star, sequence_at, Formula, strong, weak}
use Rattle.psl.specs.Syntax.{strong_sequence, weak_sequence, negated, conjoined, next, until, abort, implies, formula_at}
use Rattle.psl.specs.Word.{Word, mir, seen, from, front, Tick}
use Rattle.psl.specs.Clocked.{Matches, Satisfies}
use Rattle.psl.specs.OptionalClock.{on, TickUnder, MatchesUnder, SatisfiesUnder}
use Rattle.psl.proofs.Same.{iff_sum, iff_both, Same, concat_same, fusion_same, star_same, starts_same, weakly_same, negated_same, abort_same}
use Rattle.psl.proofs.Same.{implies_same}
use Rattle.psl.proofs.Ticks.{ticks_holds}
use Rattle.psl.proofs.Stretches.{tick_place}

tick_same : (c : Condition) → Same (Tick c) (TickUnder (on c))
tick_same c [] = (λ x. x, λ x. x)
tick_same c (l ∷ []) = (λ x. x, λ x. x)
tick_same c (l ∷ (m ∷ v)) = let e = tick_same c (m ∷ v) in (λ x. (x.0, e.0 x.1), λ x. (x.0, e.1 x.1))

pub clock_matches : (c : Condition) (r : Sequence) → Same (Matches c r) (MatchesUnder (on c) r)
clock_matches c (condition b) = λ v. iff_both (tick_same c v) (λ x. x, λ x. x)
clock_matches c (concat r s) = concat_same (clock_matches c r) (clock_matches c s)
clock_matches c (fusion r s) = fusion_same (clock_matches c r) (clock_matches c s)
clock_matches c (either r s) = λ v. iff_sum (clock_matches c r v) (clock_matches c s v)
clock_matches c (both r s) = λ v. iff_both (clock_matches c r v) (clock_matches c s v)
clock_matches c empty = λ v. (λ x. x, λ x. x)
clock_matches c (star r) = star_same (clock_matches c r)
clock_matches c (sequence_at r d) = clock_matches d r

pub clock_satisfies : (c : Condition) (f : Formula) (w : Word) → Satisfies c f w ↔ SatisfiesUnder (on c) f w
clock_satisfies c (strong b) w = (
  (λ (j, t, h). (j, (tick_same c (front w (suc j))).0 t, h)),
  (λ (j, t, h). (j, (tick_same c (front w (suc j))).1 t, h)),
)
clock_satisfies c (weak b) w = (
  (λ s j p t. s j p ((tick_same c (front (mir w) (suc j))).1 t)),
  (λ s j p t. s j p ((tick_same c (front (mir w) (suc j))).0 t)),
)
clock_satisfies c (strong_sequence r) w = starts_same (clock_matches c r) w
clock_satisfies c (weak_sequence r) w = weakly_same (clock_matches c r) w
clock_satisfies c (negated f) w = negated_same (clock_satisfies c f) w
clock_satisfies c (conjoined f g) w = iff_both (clock_satisfies c f w) (clock_satisfies c g w)
clock_satisfies c (next f) w = (
  (λ (j, k, t, u, s). (
    j,
    k,
    (tick_same c (front w (suc j))).0 t,
    tick_place c k (from w (suc j)) u,
    (tick_same c (front (from w (suc j)) (suc k))).0 u,
    (clock_satisfies c f (from (from w (suc j)) k)).0 s,
  )),
  (λ (j, k, t, p, u, s).
      (j, k, (tick_same c (front w (suc j))).1 t, (tick_same c (front (from w (suc j)) (suc k))).1 u, (clock_satisfies c f (from (from w (suc j)) k)).1 s)),
)
clock_satisfies c (until f g) w = (
  (λ (k, h, s, b). (
    k,
    (ticks_holds c (seen w k)).1 h,
    (clock_satisfies c g (from w k)).0 s,
    λ j i q. (clock_satisfies c f (from w j)).0
        (b j i ((ticks_holds c (seen (mir w) j)).0 q)),
  )),
  (λ (k, h, s, b). (
    k,
    (ticks_holds c (seen w k)).0 h,
    (clock_satisfies c g (from w k)).1 s,
    λ j i q. (clock_satisfies c f (from w j)).1
        (b j i ((ticks_holds c (seen (mir w) j)).1 q)),
  )),
)
clock_satisfies c (abort f b) w = abort_same (clock_satisfies c f) b w
clock_satisfies c (implies r f) w = implies_same (clock_matches c r) (clock_satisfies c f) w
clock_satisfies c (formula_at f d) w = clock_satisfies d f w
