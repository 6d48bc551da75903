-- What is told of a part where it stands, said of its sequence, its clock and its view.
use Rattle.std.proofs.Common.{◌≡◌, ℕ, zero, suc, ◌*◌, ◌≤◌, sym, ap, ap₂, ◌∙◌, subst, zero-mul, mul-zero, arith}
use Rattle.psl.specs.Syntax.{Sequence}
use Rattle.psl.specs.Automaton.{states}
use Rattle.psl.specs.OptionalClock.{Clock}
use Rattle.automaton.specs.declared.part.Part.{Part}
use Rattle.automaton.specs.declared.part.Shape.TheVariants.{Both}
use Rattle.automaton.specs.declared.placed.Placed.{Placed}
use Rattle.automaton.specs.declared.view.View.{View}
use Rattle.automaton.specs.Clocks.{clock_of}
use Rattle.automaton.specs.Parts.{clock_in, sequence_of, size, Operand, ShapeOf}
use Rattle.automaton.specs.Standing.{Stands}
use Rattle.automaton.specs.Views.{Fits, behind}

-- of a part under the clock k
pub told : (P : Clock → Sequence → View → Type 0) (w : Placed) (r : Part) (k : Clock) (v : View) → clock_in r ≡ k → Stands w r v
    → P (clock_in w.part) (sequence_of w.part) w.view → P k (sequence_of r) v
told P w r k v e (f, g) h =
    subst (λ (k : Clock). P k (sequence_of r) v) e
    (subst (λ (v : View). P (clock_in r) (sequence_of r) v) g (subst (λ (o : Part). P (clock_in o) (sequence_of o) w.view) f h))

-- an operand has the same clock
pub same_clock : (p r : Part) → Operand p r → clock_in r ≡ clock_in p
same_clock p r o = ap clock_of o.1

-- the second part of a sum stands behind the states that the first has under the clock k
pub told_behind : (P : Clock → Sequence → View → Type 0) (w : Placed) (r s : Part) (k : Clock) (v : View) → clock_in r ≡ k → clock_in s ≡ k → Stands w s (behind v (size r))
    → P (clock_in w.part) (sequence_of w.part) w.view → P k (sequence_of s) (behind v (states k (sequence_of r)))
told_behind P w r s k v e f g h = subst (λ (k' : Clock). P k (sequence_of s) (behind v (states k' (sequence_of r)))) e (told P w s k (behind v (size r)) f g h)

-- r && s has a state for each pair of states
pairs_size : (p r s : Part) → ShapeOf p (Both r s) → size p ≡ size r * size s
pairs_size p r s (a, b, is, some) =
    ap (states (clock_in p)) is
    ∙ ap₂ (λ (k l : Clock). states k (sequence_of r) * states l (sequence_of s)) (sym (same_clock p r a)) (sym (same_clock p s b))

pub pairs_fit : (w : Placed) (r s : Part) → ShapeOf w.part (Both r s) → Fits w.view (size r * size s)
pairs_fit w r s h = subst (Fits w.view) (pairs_size w.part r s h) w.fits

-- the factors of a product that is not 0
first_some : (n m : ℕ) → 1 ≤ n * m → 1 ≤ n
first_some zero m h = absurd (omega (arith, zero-mul m))
first_some (suc n) m h = omega arith

second_some : (n m : ℕ) → 1 ≤ n * m → 1 ≤ m
second_some n zero h = absurd (omega (arith, mul-zero n))
second_some n (suc m) h = omega arith

-- each of the two has a state
pub pairs_some : (p r s : Part) → ShapeOf p (Both r s) → (1 ≤ size r) × (1 ≤ size s)
pairs_some p r s h =
    let some : 1 ≤ size r * size s = subst (λ (x : ℕ). 1 ≤ x) (pairs_size p r s h) h.3 in
    (first_some (size r) (size s) some, second_some (size r) (size s) some)
