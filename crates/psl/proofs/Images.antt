-- Images of clock removal: their shape, and what they share with their sources.
use Rattle.std.proofs.Common.{◌≡◌, ◌+◌, ◌*◌, ◌&&◌, T, ◌↔◌, List, refl, ap, subst, ap₂, inl, inr}
use Rattle.psl.specs.Syntax.{Condition, Sequence, condition, concat, fusion, either, both, empty, star, sequence_at, Formula, strong, weak}
use Rattle.psl.specs.Syntax.{strong_sequence, weak_sequence, negated, conjoined, next, until, abort, implies, formula_at}
use Rattle.psl.specs.Letter.{Letter}
use Rattle.psl.specs.Word.{Word}
use Rattle.psl.specs.Unclocked.{UnclockedMatches, UnclockedSatisfies}
use Rattle.psl.specs.Removal.{unclock_sequence, unclock}
use Rattle.psl.specs.Automaton.{states}
use Rattle.psl.specs.Images.{is_condition, is_wait, ticked, Tame}
use Rattle.psl.specs.OptionalClock.{free, on, MatchesUnder, SatisfiesUnder, clock_free}
use Rattle.psl.proofs.Tests.{and_in, and_out, or_right, or_out}
use Rattle.psl.proofs.UnclockedMeaning.{erase_sequence, erase, free_matches, free_satisfies, clock_free_same}

pub image_ticked : (c : Condition) (r : Sequence) → T (ticked (unclock_sequence c r))
image_ticked c (condition b) = tt
image_ticked c (concat r s) =
    let a = unclock_sequence c r in
    let b = unclock_sequence c s in
    or_right (is_wait a && is_condition b) (ticked a && ticked b) (and_in (ticked a) (ticked b) (image_ticked c r) (image_ticked c s))
image_ticked c (fusion r s) = and_in (ticked (unclock_sequence c r)) (ticked (unclock_sequence c s)) (image_ticked c r) (image_ticked c s)
image_ticked c (either r s) = and_in (ticked (unclock_sequence c r)) (ticked (unclock_sequence c s)) (image_ticked c r) (image_ticked c s)
image_ticked c (both r s) = and_in (ticked (unclock_sequence c r)) (ticked (unclock_sequence c s)) (image_ticked c r) (image_ticked c s)
image_ticked c empty = tt
image_ticked c (star r) = image_ticked c r
image_ticked c (sequence_at r d) = image_ticked d r

-- ticked sequences have no @
condition_clock_free : (r : Sequence) → T (is_condition r) → T (clock_free r)
condition_clock_free (condition b) t = tt
condition_clock_free (concat r s) t = absurd t
condition_clock_free (fusion r s) t = absurd t
condition_clock_free (either r s) t = absurd t
condition_clock_free (both r s) t = absurd t
condition_clock_free empty t = absurd t
condition_clock_free (star r) t = absurd t
condition_clock_free (sequence_at r d) t = absurd t

wait_clock_free : (r : Sequence) → T (is_wait r) → T (clock_free r)
wait_clock_free (condition b) t = absurd t
wait_clock_free (concat r s) t = absurd t
wait_clock_free (fusion r s) t = absurd t
wait_clock_free (either r s) t = absurd t
wait_clock_free (both r s) t = absurd t
wait_clock_free empty t = absurd t
wait_clock_free (star r) t = condition_clock_free r t
wait_clock_free (sequence_at r d) t = absurd t

pub ticked_clock_free : (r : Sequence) → T (ticked r) → T (clock_free r)
ticked_clock_free (condition b) t = absurd t
ticked_clock_free (concat r s) t =
    elim (or_out (is_wait r && is_condition s) (ticked r && ticked s) t) [
      | inl x ↦ let (a, b) = and_out (is_wait r) (is_condition s) x in and_in (clock_free r) (clock_free s) (wait_clock_free r a) (condition_clock_free s b)
      | inr x ↦ let (a, b) = and_out (ticked r) (ticked s) x in and_in (clock_free r) (clock_free s) (ticked_clock_free r a) (ticked_clock_free s b)
    ]
ticked_clock_free (fusion r s) t =
    let (a, b) = and_out (ticked r) (ticked s) t in and_in (clock_free r) (clock_free s) (ticked_clock_free r a) (ticked_clock_free s b)
ticked_clock_free (either r s) t =
    let (a, b) = and_out (ticked r) (ticked s) t in and_in (clock_free r) (clock_free s) (ticked_clock_free r a) (ticked_clock_free s b)
ticked_clock_free (both r s) t = let (a, b) = and_out (ticked r) (ticked s) t in and_in (clock_free r) (clock_free s) (ticked_clock_free r a) (ticked_clock_free s b)
ticked_clock_free empty t = tt
ticked_clock_free (star r) t = ticked_clock_free r t
ticked_clock_free (sequence_at r d) t = absurd t

ticked_same : (r : Sequence) → T (ticked r) → erase_sequence r ≡ r
ticked_same r t = clock_free_same r (ticked_clock_free r t)

-- nothing is erased from a tame formula, and images are tame
tame_same : (f : Formula) → Tame f → erase f ≡ f
tame_same (strong b) t = refl
tame_same (weak b) t = refl
tame_same (strong_sequence r) t = ap strong_sequence (ticked_same r t)
tame_same (weak_sequence r) t = ap weak_sequence (ticked_same r t)
tame_same (negated f) t = ap negated (tame_same f t)
tame_same (conjoined f g) t = ap₂ conjoined (tame_same f t.0) (tame_same g t.1)
tame_same (next f) t = ap next (tame_same f t)
tame_same (until f g) t = ap₂ until (tame_same f t.0) (tame_same g t.1)
tame_same (abort f b) t = ap (λ (x : Formula). abort x b) (tame_same f t.0)
tame_same (implies r f) t = ap₂ implies (ticked_same r t.0) (tame_same f t.1)
tame_same (formula_at f d) t = absurd t

pub image_tame : (c : Condition) (f : Formula) → Tame (unclock c f)
image_tame c (strong b) = (tt, tt)
image_tame c (weak b) = (tt, tt)
image_tame c (strong_sequence r) = image_ticked c r
image_tame c (weak_sequence r) = image_ticked c r
image_tame c (negated f) = image_tame c f
image_tame c (conjoined f g) = (image_tame c f, image_tame c g)
image_tame c (next f) = (tt, (tt, (tt, (tt, image_tame c f))))
image_tame c (until f g) = ((tt, image_tame c f), (tt, image_tame c g))
image_tame c (abort f b) = (image_tame c f, (c, f, refl))
image_tame c (implies r f) = (image_ticked c r, image_tame c f)
image_tame c (formula_at f d) = image_tame d f

pub tame_satisfies : (f : Formula) → Tame f → (w : Word) → UnclockedSatisfies f w ↔ SatisfiesUnder free f w
tame_satisfies f t w = subst (λ (x : Formula). UnclockedSatisfies f w ↔ SatisfiesUnder free x w) (tame_same f t) (free_satisfies f w)

pub clock_free_matches : (r : Sequence) → T (clock_free r) → (v : List Letter) → UnclockedMatches r v ↔ MatchesUnder free r v
clock_free_matches r t v = subst (λ (x : Sequence). UnclockedMatches r v ↔ MatchesUnder free x v) (clock_free_same r t) (free_matches r v)

-- the automaton of an image is as large as the sequence's
pub image_size : (c : Condition) (r : Sequence) → states free (unclock_sequence c r) ≡ states (on c) r
image_size c (condition b) = refl
image_size c (concat r s) = ap₂ ◌+◌ (image_size c r) (image_size c s)
image_size c (fusion r s) = ap₂ ◌+◌ (image_size c r) (image_size c s)
image_size c (either r s) = ap₂ ◌+◌ (image_size c r) (image_size c s)
image_size c (both r s) = ap₂ ◌*◌ (image_size c r) (image_size c s)
image_size c empty = refl
image_size c (star r) = image_size c r
image_size c (sequence_at r d) = image_size d r
