-- The laws of a kind, kept by simulator letters.
use Rattle.std.specs.Prelude.{◌≡◌, ℕ, ◌≤◌, Bool, false, ◌&&◌, ◌==◌, Decides, refl}
use Rattle.std.proofs.Common.{sym, ap, ap₂, ◌∙◌, arith}
use Rattle.std.proofs.lemmas.Bool.{eqb-true, eq-eqb, and_parts, and_from}
use Rattle.bits.specs.Words.{bit}
use Rattle.letter.specs.Meaning.{meaning}
use Rattle.letter.specs.Values.{satisfied, value_at}
use Rattle.letter.specs.declared.atoms.Atoms.{Atoms}
use Rattle.letter.specs.declared.simulated.Simulated.{Simulated}
use Rattle.letter.specs.Paths.{atoms_path}
use Rattle.bits.proofs.Bitwise.{bit_high}
use Rattle.letter.specs.Told.{told, by_meaning}
use Rattle.letter.specs.ValuesLemmas.{own_told}

-- the atoms that a letter satisfies
abbrev pub simulated_atoms : Simulated → ℕ → Bool
simulated_atoms x n = satisfied (value_at x.own.bits x.other.bits n)

-- the letter with x and y traded on every wire
abbrev pub simulated_mirror : Simulated → Simulated
simulated_mirror x = record { own = x.other; other = x.own }

-- whether two letters are the same
abbrev pub simulated_equals : Simulated → Simulated → Bool
simulated_equals x y = (x.own.bits == y.own.bits) && x.other.bits == y.other.bits

pub simulated_path : (x y : Simulated) → x.own.bits ≡ y.own.bits → x.other.bits ≡ y.other.bits → x ≡ y
simulated_path x y p q = ap₂ (λ (a b : Atoms). record { own = a; other = b }) (atoms_path x.own y.own p) (atoms_path x.other y.other q)

pub simulated_few : (1 ≤ 32) × (32 ≤ 32)
simulated_few = (omega arith, omega arith)

pub simulated_beyond : (x : Simulated) (n : ℕ) → 32 ≤ n → simulated_atoms x n ≡ false
simulated_beyond x n le = own_told (bit x.own.bits n) (bit x.other.bits n) ∙ bit_high x.own.bits 32 n x.own.short le

pub simulated_twice : (x : Simulated) → simulated_mirror (simulated_mirror x) ≡ x
simulated_twice x = refl

pub simulated_decided : (x y : Simulated) → Decides (simulated_equals x y) (x ≡ y)
simulated_decided x y = (
  λ e. let p = and_parts (x.own.bits == y.own.bits) (x.other.bits == y.other.bits) e in simulated_path x y (eqb-true _ _ p.0) (eqb-true _ _ p.1),
  λ e. and_from _ _ (eq-eqb _ _ (ap (λ (x : Simulated). x.own.bits) e)) (eq-eqb _ _ (ap (λ (x : Simulated). x.other.bits) e)),
)

-- letters that satisfy the same atoms have the same bits
own_bits : (a b c d : ℕ) → ((n : ℕ) → satisfied (value_at a b n) ≡ satisfied (value_at c d n)) → a ≡ c
own_bits a b c d same = told a c (λ n. sym (own_told (bit a n) (bit b n)) ∙ same n ∙ own_told (bit c n) (bit d n))

pub simulated_told : (x y : Simulated)
    → Decides (simulated_equals x y) (meaning simulated_atoms simulated_mirror x ≡ meaning simulated_atoms simulated_mirror y)
simulated_told x y =
    by_meaning simulated_atoms simulated_mirror (simulated_decided x y)
    (λ own other. simulated_path x y (own_bits x.own.bits x.other.bits y.own.bits y.other.bits own) (own_bits x.other.bits x.own.bits y.other.bits y.own.bits other))
