-- The members of a set are counted word by word.
use Rattle.std.proofs.Common.{◌≡◌, ℕ, zero, suc, ◌+◌, ◌*◌, ◌/◌, ◌%◌, ◌^◌, ◌<◌, Bool, eqb, List, get_or, sym, refl, ap, ◌∙◌, ap₂, add-zero, add_assoc, add-suc, mod-eq_of_lt, add_comm, arith}
use lib.Count.{ones, ones_cat}
use Rattle.std.proofs.lemmas.Nat.{mod-pow-add, mod_below, pow_pos, div-mul-add, mod-mul-add}
use Rattle.bits.specs.Words.{bit, in_words}
use Rattle.bits.specs.Member.{one, count_below}

-- the numbers below a + b are those below a, and b more
count_more : (P : ℕ → Bool) (a b : ℕ) → count_below P (a + b) ≡ count_below P a + count_below (λ k. P (a + k)) b
count_more P a zero = ap (count_below P) (add-zero a) ∙ sym (add-zero (count_below P a))
count_more P a (suc b) =
    ap (count_below P) (add-suc a b)
    ∙ ap (λ (z : ℕ). z + one (P (a + b))) (count_more P a b)
    ∙ add_assoc (count_below P a) (count_below (λ k. P (a + k)) b) (one (P (a + b)))

count_same : (P Q : ℕ → Bool) (n : ℕ) → ((k : ℕ) → k < n → P k ≡ Q k) → count_below P n ≡ count_below Q n
count_same P Q zero same = refl
count_same P Q (suc n) same = ap₂ (λ (x y : ℕ). x + y) (count_same P Q n (λ k h. same k (omega arith))) (ap one (same n (omega arith)))

ones_digit : (d : ℕ) → d < 2 → ones d ≡ one (eqb d 1)
unfolding ones
ones_digit zero h = refl
ones_digit (suc zero) h = refl
ones_digit (suc (suc d)) h = absurd (omega arith)

-- the set bits of a number, of the lowest n
count_bits : (v n : ℕ) → count_below (bit v) n ≡ ones (v % 2 ^ n)
count_bits v zero = sym (ap ones (let e : v % 1 ≡ 0 = omega arith in e) ∙ ones_digit 0 (omega arith))
count_bits v (suc n) =
    let low : v % 2 ^ n < 2 ^ n = mod_below v (2 ^ n) (pow_pos n) in
    let high : v / 2 ^ n % 2 < 2 = omega arith in
    let split : ones (v % 2 ^ (1 + n)) ≡ ones (v / 2 ^ n % 2) + ones (v % 2 ^ n) = ap ones (mod-pow-add v 1 n) ∙ ones_cat n (v / 2 ^ n % 2) (v % 2 ^ n) low in
    ap₂ (λ (x y : ℕ). x + y) (count_bits v n) (sym (ones_digit (v / 2 ^ n % 2) high))
    ∙ add_comm (ones (v % 2 ^ n)) (ones (v / 2 ^ n % 2))
    ∙ sym split
    ∙ ap (λ (z : ℕ). ones (v % 2 ^ z)) (let e : 1 + n ≡ suc n = omega arith in e)

-- one word more is counted
pub count_word : (w : ℕ) (ws : List ℕ) (i : ℕ) → get_or ws i 0 < 2 ^ w
    → count_below (in_words w ws) (i * w + w) ≡ count_below (in_words w ws) (i * w) + ones (get_or ws i 0)
unfolding in_words
count_word w ws i short =
    let v = get_or ws i 0 in
    count_more (in_words w ws) (i * w) w
    ∙ ap (λ (z : ℕ). count_below (in_words w ws) (i * w) + z)
    (count_same (λ k. in_words w ws (i * w + k)) (bit v) w here ∙ count_bits v w ∙ ap ones (mod-eq_of_lt short))
  where
    here : (k : ℕ) → k < w → in_words w ws (i * w + k) ≡ bit (get_or ws i 0) k
    here k h = ap₂ (λ (q r : ℕ). bit (get_or ws q 0) r) (div-mul-add i w k h) (mod-mul-add i w k h)
