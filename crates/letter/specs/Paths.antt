-- Sets of atoms with equal numbers are equal: the facts that they carry have one proof.
use Rattle.std.proofs.Common.{◌≡◌, ℕ, ◌^◌, ◌<◌}
use mathlib.Core.HLevel.{is_prop→PathP}
use denote.Struct.Props.{props}
use Rattle.letter.specs.declared.atoms.Atoms.{Atoms}

short_prop : (a : ℕ) → IsProp (a < 2 ^ 32)
short_prop a = hlevel props

pub both_prop : (a b : ℕ) → IsProp ((a < 2 ^ 32) × (b < 2 ^ 32))
both_prop a b = hlevel props

pub atoms_path : (x y : Atoms) → x.bits ≡ y.bits → x ≡ y
atoms_path x y p = λ i. record { bits = p i; short = is_prop→PathP (λ i. p i < 2 ^ 32) (λ i. short_prop (p i)) x.short y.short i }
