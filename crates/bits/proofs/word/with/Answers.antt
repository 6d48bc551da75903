use Rattle.std.proofs.Common.{◌≡◌, ℕ, ◌*◌, ◌%◌, ◌^◌, ◌<◌, Bool, true, false, cond, not, ◌&&◌, ◌||◌, eqb, sym, refl, ap, ◌∙◌, arith}
use lib.Bits.{or_lt, xor_lt, and_le_l}
use Rattle.std.proofs.lemmas.Nat.{one_shl, pow_below}
use Rattle.bits.specs.Words.{bit}
use Rattle.bits.proofs.Bitwise.{bit-bit_or, bit_less, bit_pow}
use Rattle.bits.proofs.word.with.Goals as goal

mark : (n : ℕ) → n < 64 → (k : ℕ) → bit (1 * 2 ^ n % 2 ^ 64) k ≡ eqb k n
mark n h k = ap (λ (z : ℕ). bit z k) (one_shl n 64 h) ∙ bit_pow n k

mark_short : (n w : ℕ) → n < 64 → n < w → 1 * 2 ^ n % 2 ^ 64 < 2 ^ w
mark_short n w h k = rw (one_shl n 64 h) (pow_below n w k)

added : (here old flag : Bool) → flag ≡ true → (old || here) ≡ cond here flag old
added true true flag e = sym e
added true false flag e = sym e
added false true flag e = refl
added false false flag e = refl

taken : (here old flag : Bool) → flag ≡ false → (old && not here) ≡ cond here flag old
taken true true flag e = sym e
taken true false flag e = sym e
taken false true flag e = refl
taken false false flag e = refl

pub returns-then-flag-clause-items : goal.returns-then-flag-clause-items
returns-then-flag-clause-items c h k =
    let b = c.args.word in
    bit-bit_or b (1 * 2 ^ c.args.n % 2 ^ 64) k ∙ ap (λ x. bit b k || x) (mark c.args.n h k) ∙ added (eqb k c.args.n) (bit b k) c.args.flag c.if-flag.true

pub returns-then-flag-clause-short : goal.returns-then-flag-clause-short
returns-then-flag-clause-short c w h short = or_lt w _ _ short (mark_short c.args.n w c.if-n-ge64.false h)

pub returns-else-flag-clause-items : goal.returns-else-flag-clause-items
returns-else-flag-clause-items c h k =
    let b = c.args.word in
    bit_less b (1 * 2 ^ c.args.n % 2 ^ 64) k ∙ ap (λ x. bit b k && not x) (mark c.args.n h k) ∙ taken (eqb k c.args.n) (bit b k) c.args.flag c.if-flag.false

pub returns-else-flag-clause-short : goal.returns-else-flag-clause-short
returns-else-flag-clause-short c w h short =
    xor_lt w _ _ short (let le = and_le_l c.args.word (1 * 2 ^ c.args.n % 2 ^ 64) in omega arith)
