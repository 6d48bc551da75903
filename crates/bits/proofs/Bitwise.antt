-- The bits of a number, of a power of two, of the lowest bits, and of what is made bit by bit.
use Rattle.std.proofs.Common.{◌≡◌, ℕ, zero, suc, ◌+◌, ◌-◌, ◌*◌, ◌/◌, ◌%◌, ◌^◌, ◌<◌, ◌≤◌, Bool, true, false, not, ◌&&◌, ◌||◌, eqb, ltb, ◌⊎◌, sym, refl, ap, ◌∙◌, inl, inr, arith}
use native.Mathlib.Nat.{div-eq_of_lt, zero-div, pow-le-pow_right}
use lib.Pow.{ones_split}
use lib.Bits.{bit_and, bit_or, bit_xor, and_shr, or_shr, xor_shr, and_mod, or_mod, xor_mod}
use Rattle.std.proofs.lemmas.Nat.{shl-shr, shr_high, pow_pos, pow-add, pow_below}
use Rattle.std.proofs.lemmas.Bool.{eq-eqb, ne_eqb, lt-ltb, le-ltb, cases_order, cases_lt}
use Rattle.bits.specs.Words.{bit}

-- what is made bit by bit, on two bits
two_bits : (f : ℕ → ℕ → ℕ) (op : Bool → Bool → Bool)
    → eqb (f 0 0) 1 ≡ op false false → eqb (f 0 1) 1 ≡ op false true → eqb (f 1 0) 1 ≡ op true false → eqb (f 1 1) 1 ≡ op true true
    → (p q : ℕ) → p < 2 → q < 2 → eqb (f p q) 1 ≡ op (eqb p 1) (eqb q 1)
two_bits f op a b c d zero zero h k = a
two_bits f op a b c d zero (suc zero) h k = b
two_bits f op a b c d (suc zero) zero h k = c
two_bits f op a b c d (suc zero) (suc zero) h k = d
two_bits f op a b c d zero (suc (suc q)) h k = absurd (omega arith)
two_bits f op a b c d (suc zero) (suc (suc q)) h k = absurd (omega arith)
two_bits f op a b c d (suc (suc p)) q h k = absurd (omega arith)

pub bit-bit_or : (a b n : ℕ) → bit (bit_or a b) n ≡ (bit a n || bit b n)
bit-bit_or a b n =
    ap (λ (z : ℕ). eqb (z % 2) 1) (or_shr a b n)
    ∙ ap (λ (z : ℕ). eqb z 1) (or_mod (a / 2 ^ n) (b / 2 ^ n) 1)
    ∙ two_bits bit_or ◌||◌ refl refl refl refl (a / 2 ^ n % 2) (b / 2 ^ n % 2) (omega arith) (omega arith)

pub bit-bit_and : (a b n : ℕ) → bit (bit_and a b) n ≡ (bit a n && bit b n)
bit-bit_and a b n =
    ap (λ (z : ℕ). eqb (z % 2) 1) (and_shr a b n)
    ∙ ap (λ (z : ℕ). eqb z 1) (and_mod (a / 2 ^ n) (b / 2 ^ n) 1)
    ∙ two_bits bit_and ◌&&◌ refl refl refl refl (a / 2 ^ n % 2) (b / 2 ^ n % 2) (omega arith) (omega arith)

-- one or the other, and not both
abbrev differs : Bool → Bool → Bool
differs true b = not b
differs false b = b

bit-bit_xor : (a b n : ℕ) → bit (bit_xor a b) n ≡ differs (bit a n) (bit b n)
bit-bit_xor a b n =
    ap (λ (z : ℕ). eqb (z % 2) 1) (xor_shr a b n)
    ∙ ap (λ (z : ℕ). eqb z 1) (xor_mod (a / 2 ^ n) (b / 2 ^ n) 1)
    ∙ two_bits bit_xor differs refl refl refl refl (a / 2 ^ n % 2) (b / 2 ^ n % 2) (omega arith) (omega arith)

-- the bits of a that b has not
pub bit_less : (a b n : ℕ) → bit (bit_xor a (bit_and a b)) n ≡ (bit a n && not (bit b n))
bit_less a b n = bit-bit_xor a (bit_and a b) n ∙ ap (differs (bit a n)) (bit-bit_and a b n) ∙ go (bit a n) (bit b n)
  where
    go : (x y : Bool) → differs x (x && y) ≡ (x && not y)
    go true y = refl
    go false y = refl

pub bit_zero : (n : ℕ) → bit 0 n ≡ false
bit_zero n = ap (λ (z : ℕ). eqb (z % 2) 1) (zero-div (2 ^ n))

-- a power of two has one bit
pub bit_pow : (m n : ℕ) → bit (2 ^ m) n ≡ eqb n m
bit_pow m n = go (cases_order n m)
  where
    go : (n ≡ m) ⊎ ((n < m) ⊎ (m < n)) → bit (2 ^ m) n ≡ eqb n m
    go (inl e) =
        let one : 2 ^ m / 2 ^ n ≡ 1 = rw e (ap (λ (z : ℕ). z / 2 ^ m) (omega arith) ∙ shl-shr 1 m) in
        ap (λ (z : ℕ). eqb (z % 2) 1) one ∙ sym (eq-eqb n m e)
    go (inr (inl h)) =
        let d = m - n - 1 in
        let is : 2 ^ m ≡ (2 ^ d * 2) * 2 ^ n =
        ap (λ (z : ℕ). 2 ^ z) (let e : m ≡ (d + 1) + n = omega arith in e) ∙ pow-add 2 (d + 1) n ∙ ap (λ (z : ℕ). z * 2 ^ n) (pow-add 2 d 1) in
        let half : 2 ^ m / 2 ^ n ≡ 2 ^ d * 2 = ap (λ (z : ℕ). z / 2 ^ n) is ∙ shl-shr (2 ^ d * 2) n in
        let even : 2 ^ m / 2 ^ n % 2 ≡ 0 = omega (arith, half) in
        ap (λ (z : ℕ). eqb z 1) even ∙ sym (ne_eqb n m (λ e. omega arith))
    go (inr (inr h)) =
        let gone : 2 ^ m / 2 ^ n ≡ 0 = div-eq_of_lt (pow_below m n h) in
        ap (λ (z : ℕ). eqb (z % 2) 1) gone ∙ sym (ne_eqb n m (λ e. omega arith))

-- a number below 2 ^ k has no bit from k on
pub bit_high : (x k n : ℕ) → x < 2 ^ k → k ≤ n → bit x n ≡ false
bit_high x k n h le =
    let two : 0 < 2 = omega arith in
    let big : x < 2 ^ n = omega (arith, pow-le-pow_right {n = 2} two {i = k} {j = n} le) in
    ap (λ (z : ℕ). eqb (z % 2) 1) (div-eq_of_lt big)

-- the lowest m bits are set
pub bit_lowest : (m n : ℕ) → bit (2 ^ m - 1) n ≡ ltb n m
bit_lowest m n = go (cases_lt n m)
  where
    go : (n < m) ⊎ (m ≤ n) → bit (2 ^ m - 1) n ≡ ltb n m
    go (inl h) =
        let d = m - n - 1 in
        let low : 2 ^ n - 1 < 2 ^ n = omega (arith, pow_pos n) in
        let split : 2 ^ m - 1 ≡ (2 ^ (d + 1) - 1) * 2 ^ n + (2 ^ n - 1) = ap (λ (z : ℕ). 2 ^ z - 1) (let e : m ≡ (d + 1) + n = omega arith in e) ∙ ones_split (d + 1) n in
        let part : (2 ^ m - 1) / 2 ^ n ≡ 2 ^ (d + 1) - 1 = ap (λ (z : ℕ). z / 2 ^ n) split ∙ shr_high (2 ^ (d + 1) - 1) n (2 ^ n - 1) low in
        let odd : (2 ^ m - 1) / 2 ^ n % 2 ≡ 1 = omega (arith, part, pow-add 2 d 1, pow_pos d) in
        ap (λ (z : ℕ). eqb z 1) odd ∙ sym (lt-ltb n m h)
    go (inr h) =
        let two : 0 < 2 = omega arith in
        let small : 2 ^ m - 1 < 2 ^ n = omega (arith, pow_pos m, pow-le-pow_right {n = 2} two {i = m} {j = n} h) in
        let gone : (2 ^ m - 1) / 2 ^ n ≡ 0 = div-eq_of_lt small in
        ap (λ (z : ℕ). eqb (z % 2) 1) gone ∙ sym (le-ltb n m h)
