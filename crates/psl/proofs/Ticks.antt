-- Where ticks end: under a clock at the letters that satisfy it, free of one at every letter.
use mathlib.Core.Option.{Option, none, some}
use Rattle.std.proofs.Common.{ℕ, zero, suc, ◌<◌, ◌⊎◌, ◌↔◌, inl, inr, arith}
use Rattle.psl.specs.Syntax.{Condition, Formula, strong, weak, next, until}
use Rattle.psl.specs.Letter.{Letter}
use Rattle.psl.specs.Word.{Word, mir, seen, Present, Place, Holds, from}
use Rattle.psl.specs.OptionalClock.{Clock, free, on, Ticks, SatisfiesUnder}
use Rattle.psl.proofs.Places.{place?, place_below, place_in_mir}

-- hold! without a clock
pub free_strong : (b : Condition) (w : Word) → SatisfiesUnder free (strong b) w ↔ Holds (seen w zero) b
free_strong b w = (to, λ h. (zero, tt, h))
  where
    to : SatisfiesUnder free (strong b) w → Holds (seen w zero) b
    to (zero, t, h) = h
    to (suc j, t, h) = absurd t.0

pub free_weak : (b : Condition) (w : Word) → SatisfiesUnder free (weak b) w ↔ (Holds (seen w zero) b ⊎ (Place w zero → ⊥))
free_weak b w = (λ s. elim (place? (seen w zero)) [ yes p ↦ inl (s zero p tt) | no n ↦ inr n ], back)
  where
    back : Holds (seen w zero) b ⊎ (Place w zero → ⊥) → SatisfiesUnder free (weak b) w
    back s (suc j) p t = absurd t.0
    back (inl h) zero p t = h
    back (inr n) zero p t = absurd (n p)

pub free_next : (f : Formula) (w : Word) → SatisfiesUnder free (next f) w ↔ (Place w 1 × SatisfiesUnder free f (from w 1))
free_next f w = (to, λ s. (zero, zero, tt, s.0, tt, s.1))
  where
    to : SatisfiesUnder free (next f) w → Place w 1 × SatisfiesUnder free f (from w 1)
    to (zero, zero, t, p, u, s) = (p, s)
    to (zero, suc k, t, p, u, s) = absurd u.0
    to (suc j, k, t, p, u, s) = absurd t.0

present_ticks : (x : Option Letter) → Present x → Ticks free x
present_ticks none p = p
present_ticks (some l) p = tt

pub ticks_present : (k : Clock) (x : Option Letter) → Ticks k x → Present x
ticks_present k none p = p
ticks_present k (some l) p = tt

pub free_until : (f g : Formula) (w : Word)
    → SatisfiesUnder free (until f g) w ↔ ((k : ℕ) × Place w k × SatisfiesUnder free g (from w k) × ((j : ℕ) → j < k → SatisfiesUnder free f (from w j)))
free_until f g w = (
  (λ (k, t, s, b).
      let p = ticks_present free (seen w k) t in
      (k, p, s, λ j i. b j i (present_ticks (seen (mir w) j) (place_in_mir w j (place_below j k w (omega arith) p))))),
  (λ (k, p, s, b). (k, present_ticks (seen w k) p, s, λ j i t. b j i)),
)

pub ticks_holds : (c : Condition) (x : Option Letter) → Ticks (on c) x ↔ Holds x c
ticks_holds c none = (λ h. h, λ h. h)
ticks_holds c (some l) = (λ h. h, λ h. h)
