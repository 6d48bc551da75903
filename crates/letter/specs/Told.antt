-- A number is told by its bits, a letter by its meaning.
use Rattle.std.specs.Prelude.{◌≡◌, ℕ, zero, suc, ◌+◌, ◌/◌, ◌%◌, ◌^◌, ◌<◌, Bool, true, false, Decides, nat_eq}
use Rattle.std.proofs.Common.{sym, ap, ◌∙◌, arith, div-one}
use Rattle.std.proofs.Math.Nat.{two-pow-succ}
use Rattle.std.proofs.lemmas.Nat.{shr-shr}
use Rattle.std.proofs.lemmas.Bool.Decides.{nat_tests}
use Rattle.psl.specs.Letter.{Letter, top, bottom, ordinary}
use Rattle.bits.specs.Words.{bit}
use Rattle.letter.specs.Meaning.{meaning}

bit_half : (x n : ℕ) → bit (x / 2) n ≡ bit x (1 + n)
bit_half x n = ap (λ (z : ℕ). nat_eq (z % 2) 1) (shr-shr x 1 n)

parity : (x y : ℕ) → bit x 0 ≡ bit y 0 → x % 2 ≡ y % 2
parity x y e = let same : x % 2 ≡ y % 2 = grind (arith, nat_tests, simp div-one at e) in same

below_pow : (k : ℕ) → k < 2 ^ k
below_pow zero = omega arith
below_pow (suc k) = let h = below_pow k in rw two-pow-succ (omega arith)

told_below : (k x y : ℕ) → x < 2 ^ k → y < 2 ^ k → ((n : ℕ) → bit x n ≡ bit y n) → x ≡ y
told_below zero x y a b same = omega arith
told_below (suc k) x y a b same =
    let a' : x / 2 < 2 ^ k = omega (arith, two-pow-succ k) in
    let b' : y / 2 < 2 ^ k = omega (arith, two-pow-succ k) in
    let halves : x / 2 ≡ y / 2 = told_below k (x / 2) (y / 2) a' b' (λ n. bit_half x n ∙ same (1 + n) ∙ sym (bit_half y n)) in
    omega (arith, parity x y (same 0))

-- two numbers with the same bits are equal
pub told : (x y : ℕ) → ((n : ℕ) → bit x n ≡ bit y n) → x ≡ y
told x y same = told_below (x + y) x y (omega (arith, below_pow (x + y))) (omega (arith, below_pow (x + y))) same

-- the atoms that a letter satisfies, and those that its mirror satisfies
abbrev own : Letter → ℕ → Bool
own top n = true
own bottom n = false
own (ordinary f g) n = f n

abbrev other : Letter → ℕ → Bool
other top n = false
other bottom n = true
other (ordinary f g) n = g n

-- Letters that are one value when their atoms and those of their mirrors agree are the same exactly when their meanings are equal.
pub by_meaning : {L : Type 0} (atoms : L → ℕ → Bool) (mirrored : L → L) {x y : L} {same : Bool} → Decides same (x ≡ y)
    → (((n : ℕ) → atoms x n ≡ atoms y n) → ((n : ℕ) → atoms (mirrored x) n ≡ atoms (mirrored y) n) → x ≡ y)
    → Decides same (meaning atoms mirrored x ≡ meaning atoms mirrored y)
by_meaning atoms mirrored decided one =
    (λ e. ap (meaning atoms mirrored) (decided.0 e), λ e. decided.1 (one (λ n. ap (λ l. own l n) e) (λ n. ap (λ l. other l n) e)))
