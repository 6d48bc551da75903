-- Aborts by their first place.
use Rattle.std.proofs.Common.{ℕ, ◌<◌, ◌≤◌, ◌↔◌, inl, inr, arith}
use native.Mathlib.Decide.{dec_le}
use Rattle.psl.specs.Syntax.{Condition, Formula, abort}
use Rattle.psl.specs.Word.{Word, with_tops, seen, Place, Holds, front}
use Rattle.psl.specs.OptionalClock.{Clock, on, SatisfiesUnder}
use Rattle.psl.proofs.Monotone.{nonempty_tops, satisfies-⊑}
use Rattle.psl.proofs.Order.{⊑-front, front-⊑}
use Rattle.psl.proofs.Places.{holds_present, place_first}

-- an abort is decided by its first place
abbrev pub Aborts : Clock → Formula → Type 0
Aborts k f = (b : Condition) (w : Word) (j : ℕ) → Holds (seen w j) b → ((i : ℕ) → i < j → Holds (seen w i) b → ⊥) → SatisfiesUnder k
    (abort f b) w ↔ SatisfiesUnder k f (with_tops (front w j))

pub abort_none : (k : Clock) (f : Formula) (b : Condition) (w : Word) → ((j : ℕ) → Holds (seen w j) b → ⊥) → SatisfiesUnder k (abort f b) w ↔ SatisfiesUnder k f w
abort_none k f b w n = (go, λ s. inl s)
  where
    go : SatisfiesUnder k (abort f b) w → SatisfiesUnder k f w
    go (inl s) = s
    go (inr (j, h, s)) = absurd (n j h)

-- under a clock every abort is, by order
pub clock_aborts : (c : Condition) (f : Formula) → Aborts (on c) f
clock_aborts c f b w j h n = (go, λ s. inr (j, h, s))
  where
    p : Place w j
    p = holds_present (seen w j) b h

    go : SatisfiesUnder (on c) (abort f b) w → SatisfiesUnder (on c) f (with_tops (front w j))
    go (inl s) = satisfies-⊑ c f w (with_tops (front w j)) (⊑-front j w p) (place_first j w p) (nonempty_tops (front w j)) s
    go (inr (k, g, s)) =
        let le : j ≤ k = elim (dec_le j k) [ yes q ↦ q | no q ↦ absurd (n k (omega arith) g) ] in
        satisfies-⊑ c f (with_tops (front w k)) (with_tops (front w j)) (front-⊑ j k w le) (nonempty_tops (front w k)) (nonempty_tops (front w j)) s
