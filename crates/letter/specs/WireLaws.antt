-- The laws of a kind, kept by wire letters.
use Rattle.std.specs.Prelude.{◌≡◌, ℕ, ◌≤◌, Bool, false, ◌==◌, Decides, refl}
use Rattle.std.proofs.Common.{ap, arith}
use Rattle.std.proofs.lemmas.Bool.{eqb-true, eq-eqb}
use Rattle.bits.specs.Words.{bit}
use Rattle.letter.specs.Meaning.{meaning}
use Rattle.letter.specs.declared.atoms.Atoms.{Atoms}
use Rattle.letter.specs.declared.wire.Wire.{Wire}
use Rattle.letter.specs.Paths.{atoms_path}
use Rattle.bits.proofs.Bitwise.{bit_high}
use Rattle.letter.specs.Told.{told, by_meaning}

-- the atoms that a letter satisfies
abbrev pub wire_atoms : Wire → ℕ → Bool
wire_atoms x = bit x.atoms.bits

-- a wire letter is its own mirror
abbrev pub wire_mirror : Wire → Wire
wire_mirror x = x

-- whether two letters are the same
abbrev pub wire_equals : Wire → Wire → Bool
wire_equals x y = x.atoms.bits == y.atoms.bits

pub wire_path : (x y : Wire) → x.atoms.bits ≡ y.atoms.bits → x ≡ y
wire_path x y p = ap (λ (a : Atoms). record { atoms = a }) (atoms_path x.atoms y.atoms p)

pub wire_few : (1 ≤ 32) × (32 ≤ 32)
wire_few = (omega arith, omega arith)

pub wire_beyond : (x : Wire) (n : ℕ) → 32 ≤ n → wire_atoms x n ≡ false
wire_beyond x n le = bit_high x.atoms.bits 32 n x.atoms.short le

pub wire_twice : (x : Wire) → wire_mirror (wire_mirror x) ≡ x
wire_twice x = refl

pub wire_decided : (x y : Wire) → Decides (wire_equals x y) (x ≡ y)
wire_decided x y = (λ e. wire_path x y (eqb-true _ _ e), λ e. eq-eqb _ _ (ap (λ (x : Wire). x.atoms.bits) e))

pub wire_told : (x y : Wire) → Decides (wire_equals x y) (meaning wire_atoms wire_mirror x ≡ meaning wire_atoms wire_mirror y)
wire_told x y = by_meaning wire_atoms wire_mirror (wire_decided x y) (λ own _. wire_path x y (told x.atoms.bits y.atoms.bits own))
