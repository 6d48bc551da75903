-- Every formula under a clock is fit for the program, and free of a clock the tame ones are, images of clock removal among them.
use Rattle.std.proofs.Common.{◌≡◌, T, ◌↔◌, List, sym, subst}
use Rattle.psl.specs.Syntax.{Condition, Formula, strong, weak, strong_sequence, weak_sequence, negated, conjoined, next, until, abort, implies}
use Rattle.psl.specs.Syntax.{formula_at}
use Rattle.psl.specs.Letter.{Letter}
use Rattle.psl.specs.Word.{Tail, with_tail, with_tops, front}
use Rattle.psl.specs.Clocked.{Satisfies}
use Rattle.psl.specs.Unclocked.{UnclockedSatisfies}
use Rattle.psl.specs.Removal.{unclock}
use Rattle.psl.specs.Evaluation.{eval}
use Rattle.psl.specs.Images.{Tame}
use Rattle.psl.specs.OptionalClock.{free, on}
use Rattle.psl.proofs.ClockedMeaning.{clock_satisfies}
use Rattle.psl.proofs.Evaluate.{Fit, eval_right}
use Rattle.psl.proofs.FirstPlace.{Aborts, clock_aborts}
use Rattle.psl.proofs.Images.{image_tame, tame_satisfies}
use Rattle.psl.proofs.Live.{clock_stretches, ticked_stretches}
use Rattle.psl.proofs.RemovalFormulas.{clock_removal_lem}
use Rattle.psl.proofs.Tests.{same_test, iff_trans, iff_sym}

pub clock_fit : (c : Condition) (f : Formula) → Fit (on c) f
clock_fit c (strong b) = tt
clock_fit c (weak b) = tt
clock_fit c (strong_sequence r) = clock_stretches c r
clock_fit c (weak_sequence r) = clock_stretches c r
clock_fit c (negated f) = clock_fit c f
clock_fit c (conjoined f g) = (clock_fit c f, clock_fit c g)
clock_fit c (next f) = clock_fit c f
clock_fit c (until f g) = (clock_fit c f, clock_fit c g)
clock_fit c (abort f b) = (clock_fit c f, clock_aborts c f)
clock_fit c (implies r f) = (clock_stretches c r, clock_fit c f)
clock_fit c (formula_at f d) = clock_fit d f

-- across to the clock, to the first place there, and back
image_aborts : (c : Condition) (f : Formula) → Aborts free (unclock c f)
image_aborts c f b w j h n =
    iff_trans (iff_sym (clock_removal_lem c (abort f b) w)) (iff_trans (clock_aborts c f b w j h n) (clock_removal_lem c f (with_tops (front w j))))

pub tame_fit : (f : Formula) → Tame f → Fit free f
tame_fit (strong b) t = tt
tame_fit (weak b) t = tt
tame_fit (strong_sequence r) t = ticked_stretches r t
tame_fit (weak_sequence r) t = ticked_stretches r t
tame_fit (negated f) t = tame_fit f t
tame_fit (conjoined f g) t = (tame_fit f t.0, tame_fit g t.1)
tame_fit (next f) t = tame_fit f t
tame_fit (until f g) t = (tame_fit f t.0, tame_fit g t.1)
tame_fit (abort f b) (t, (c, g, e)) = (tame_fit f t, subst (Aborts free) (sym e) (image_aborts c g))
tame_fit (implies r f) t = (ticked_stretches r t.0, tame_fit f t.1)
tame_fit (formula_at f d) t = absurd t

-- the program says what the two meanings say
pub clocked_judged : (c : Condition) (f : Formula) (t : Tail) (v : List Letter) → Satisfies c f (with_tail v t) ↔ T (eval (on c) f t v)
clocked_judged c f t v = iff_trans (clock_satisfies c f (with_tail v t)) (eval_right (on c) f (clock_fit c f) t v)

pub tame_judged : (f : Formula) → Tame f → (t : Tail) (v : List Letter) → UnclockedSatisfies f (with_tail v t) ↔ T (eval free f t v)
tame_judged f a t v = iff_trans (tame_satisfies f a (with_tail v t)) (eval_right free f (tame_fit f a) t v)

-- a form is judged free of a clock as its source is under one
pub image_judged : (c : Condition) (f : Formula) (t : Tail) (v : List Letter) → eval (on c) f t v ≡ eval free (unclock c f) t v
image_judged c f t v =
    let image = unclock c f in
    let e = iff_trans (clock_removal_lem c f (with_tail v t)) (eval_right free image (tame_fit image (image_tame c f)) t v) in
    let d = eval_right (on c) f (clock_fit c f) t v in
    same_test (eval (on c) f t v) (eval free image t v) (λ x. e.0 (d.1 x)) (λ x. d.0 (e.1 x))
