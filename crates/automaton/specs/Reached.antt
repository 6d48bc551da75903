-- The starts from which a sequence reaches a target.
use Rattle.std.specs.Prelude.{◌≡◌, ℕ, ◌+◌, ◌-◌, Bool, ◌&&◌, List, nat_le}
use Rattle.bits.specs.declared.places.Places.{Places}
use Rattle.bits.specs.Member.{member}
use Rattle.psl.specs.Syntax.{Sequence}
use Rattle.psl.specs.Evaluation.{reach}
use Rattle.psl.specs.OptionalClock.{Clock}
use Rattle.truth.specs.Rows.{word}

-- x is a place from lo to hi
abbrev pub inside : ℕ → ℕ → ℕ → Bool
inside lo hi x = nat_le lo x && nat_le x hi

-- the set has the places from lo to hi from which the letters up to a target match, or, if `beyond`, all letters up to hi and then one or more tops
abbrev pub Reaches : Clock → Sequence → List ℕ → List ℕ → ℕ → ℕ → (ℕ → Bool) → Bool → Places → Type 0
Reaches k r own other lo hi targets beyond p =
    (x : ℕ) → member p x ≡ (inside lo hi x && reach k r (λ j. targets (x + j)) beyond (word own other x (hi - x)))
