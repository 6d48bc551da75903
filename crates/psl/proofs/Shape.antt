-- The shape of images survives filling in, so the program over names tells the unclocked meaning over letters.
use Rattle.std.proofs.Common.{◌≡◌, ℕ, Bool, ◌&&◌, ◌||◌, T, ◌↔◌, List, sym, refl, subst, ap₂}
use Rattle.psl.specs.Syntax.{Condition, atom, Sequence, condition, concat, fusion, either, both, empty, star, sequence_at, Formula, strong, weak}
use Rattle.psl.specs.Syntax.{strong_sequence, weak_sequence, negated, conjoined, next, until, abort, implies, formula_at}
use Rattle.psl.specs.Letter.{Letter, ordinary, mirror, satisfies}
use Rattle.psl.specs.Word.{Tail, with_tail}
use Rattle.psl.specs.Clocked.{Satisfies}
use Rattle.psl.specs.Unclocked.{UnclockedSatisfies}
use Rattle.psl.specs.Evaluation.{eval}
use Rattle.psl.specs.Images.{is_condition, is_wait, ticked, Tame}
use Rattle.psl.specs.Named.{filled, filled_sequence, filled_formula, Like, Likes}
use Rattle.psl.specs.OptionalClock.{free, on}
use Rattle.psl.proofs.Fit.{clocked_judged, tame_judged}
use Rattle.psl.proofs.Live.{clock_stretches, ticked_stretches}
use Rattle.psl.proofs.Through.{Spans, eval_like}

condition_filled : (f : ℕ → Condition) (r : Sequence) → is_condition (filled_sequence f r) ≡ is_condition r
condition_filled f (condition b) = refl
condition_filled f (concat r s) = refl
condition_filled f (fusion r s) = refl
condition_filled f (either r s) = refl
condition_filled f (both r s) = refl
condition_filled f empty = refl
condition_filled f (star r) = refl
condition_filled f (sequence_at r d) = refl

wait_filled : (f : ℕ → Condition) (r : Sequence) → is_wait (filled_sequence f r) ≡ is_wait r
wait_filled f (condition b) = refl
wait_filled f (concat r s) = refl
wait_filled f (fusion r s) = refl
wait_filled f (either r s) = refl
wait_filled f (both r s) = refl
wait_filled f empty = refl
wait_filled f (star r) = condition_filled f r
wait_filled f (sequence_at r d) = refl

ticked_filled : (f : ℕ → Condition) (r : Sequence) → ticked (filled_sequence f r) ≡ ticked r
ticked_filled f (condition b) = refl
ticked_filled f (concat r s) = ap₂ ◌||◌ (ap₂ ◌&&◌ (wait_filled f r) (condition_filled f s)) (ap₂ ◌&&◌ (ticked_filled f r) (ticked_filled f s))
ticked_filled f (fusion r s) = ap₂ ◌&&◌ (ticked_filled f r) (ticked_filled f s)
ticked_filled f (either r s) = ap₂ ◌&&◌ (ticked_filled f r) (ticked_filled f s)
ticked_filled f (both r s) = ap₂ ◌&&◌ (ticked_filled f r) (ticked_filled f s)
ticked_filled f empty = refl
ticked_filled f (star r) = ticked_filled f r
ticked_filled f (sequence_at r d) = refl

filled_ticked : (f : ℕ → Condition) (r : Sequence) → T (ticked r) → T (ticked (filled_sequence f r))
filled_ticked f r t = subst T (sym (ticked_filled f r)) t

-- the sequences have the shape of images, and there is no @: no matter what the names stand for
abbrev Shaped : Formula → Type 0
Shaped (strong b) = Unit {0}
Shaped (weak b) = Unit {0}
Shaped (strong_sequence r) = T (ticked r)
Shaped (weak_sequence r) = T (ticked r)
Shaped (negated x) = Shaped x
Shaped (conjoined x y) = Shaped x × Shaped y
Shaped (next x) = Shaped x
Shaped (until x y) = Shaped x × Shaped y
Shaped (abort x b) = Shaped x
Shaped (implies r x) = T (ticked r) × Shaped x
Shaped (formula_at x d) = ⊥

shaped_spans : (x : Formula) → Shaped x → Spans free x
shaped_spans (strong b) z = tt
shaped_spans (weak b) z = tt
shaped_spans (strong_sequence r) z = λ f. ticked_stretches (filled_sequence f r) (filled_ticked f r z)
shaped_spans (weak_sequence r) z = λ f. ticked_stretches (filled_sequence f r) (filled_ticked f r z)
shaped_spans (negated x) z = shaped_spans x z
shaped_spans (conjoined x y) z = (shaped_spans x z.0, shaped_spans y z.1)
shaped_spans (next x) z = shaped_spans x z
shaped_spans (until x y) z = (shaped_spans x z.0, shaped_spans y z.1)
shaped_spans (abort x b) z = shaped_spans x z
shaped_spans (implies r x) z = (λ f. ticked_stretches (filled_sequence f r) (filled_ticked f r z.0), shaped_spans x z.1)
shaped_spans (formula_at x d) z = absurd z

clock_spans : (c : Condition) (x : Formula) → Spans (on c) x
clock_spans c (strong b) = tt
clock_spans c (weak b) = tt
clock_spans c (strong_sequence r) = λ f. clock_stretches (filled f c) (filled_sequence f r)
clock_spans c (weak_sequence r) = λ f. clock_stretches (filled f c) (filled_sequence f r)
clock_spans c (negated x) = clock_spans c x
clock_spans c (conjoined x y) = (clock_spans c x, clock_spans c y)
clock_spans c (next x) = clock_spans c x
clock_spans c (until x y) = (clock_spans c x, clock_spans c y)
clock_spans c (abort x b) = clock_spans c x
clock_spans c (implies r x) = (λ f. clock_stretches (filled f c) (filled_sequence f r), clock_spans c x)
clock_spans c (formula_at x d) = clock_spans d x

tame_shaped : (f : ℕ → Condition) (x : Formula) → Tame (filled_formula f x) → Shaped x
tame_shaped f (strong b) z = tt
tame_shaped f (weak b) z = tt
tame_shaped f (strong_sequence r) z = subst T (ticked_filled f r) z
tame_shaped f (weak_sequence r) z = subst T (ticked_filled f r) z
tame_shaped f (negated x) z = tame_shaped f x z
tame_shaped f (conjoined x y) z = (tame_shaped f x z.0, tame_shaped f y z.1)
tame_shaped f (next x) z = tame_shaped f x z
tame_shaped f (until x y) z = (tame_shaped f x z.0, tame_shaped f y z.1)
tame_shaped f (abort x b) z = tame_shaped f x z.0
tame_shaped f (implies r x) z = (subst T (ticked_filled f r) z.0, tame_shaped f x z.1)
tame_shaped f (formula_at x d) z = z

-- the program over names and over letters known by their flags says what the unclocked meaning says of the letters
pub tame_named : (g : ℕ → Condition) (x : Formula) → Tame (filled_formula g x) → (t : Tail) (u v : List Letter) → Likes atom g u v
    → UnclockedSatisfies (filled_formula g x) (with_tail v t) ↔ T (eval free (filled_formula atom x) t u)
tame_named g x a t u v h =
    subst (λ (b : Bool). UnclockedSatisfies (filled_formula g x) (with_tail v t) ↔ T b)
    (sym (eval_like atom g free x (shaped_spans x (tame_shaped g x a)) t u v h)) (tame_judged (filled_formula g x) a t v)

-- and, under a clock, what the clocked meaning says
pub clocked_named : (g : ℕ → Condition) (c : Condition) (x : Formula) (t : Tail) (u v : List Letter) → Likes atom g u v
    → Satisfies (filled g c) (filled_formula g x) (with_tail v t) ↔ T (eval (on (filled atom c)) (filled_formula atom x) t u)
clocked_named g c x t u v h =
    subst (λ (b : Bool). Satisfies (filled g c) (filled_formula g x) (with_tail v t) ↔ T b)
    (sym (eval_like atom g (on c) x (clock_spans c x) t u v h)) (clocked_judged (filled g c) (filled_formula g x) t v)

-- a letter is like the one that its flags make
pub like_flags : (g : ℕ → Condition) (l : Letter) → Like atom g (ordinary (λ n. satisfies l (g n)) (λ n. satisfies (mirror l) (g n))) l
like_flags g l n = (refl, refl)
