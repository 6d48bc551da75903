-- Where the states of parts stand.
use Rattle.std.proofs.Common.{◌≡◌, ℕ, zero, suc, ◌+◌, ◌*◌, ◌<◌, ◌≤◌, sym, ap, ◌∙◌, subst, add_assoc, mul_assoc, mul_comm, mul-le-mul, mul-zero, mul-suc, mul-add, arith}
use native.Mathlib.Nat.{eq_of_mul-eq-mul_left}
use Rattle.automaton.specs.declared.view.View.{View}
use Rattle.automaton.specs.Views.{place, Fits, behind, column, row}
use Rattle.psl.proofs.Number.{pair_below}

-- states of different numbers stand at different places
pub place_apart : (v : View) → 1 ≤ v.stride → (p q : ℕ) → place v p ≡ place v q → p ≡ q
place_apart v h p q e = let f : v.stride * p ≡ v.stride * q = omega arith in eq_of_mul-eq-mul_left v.stride h p q f

pub behind_place : (v : View) (n p : ℕ) → place (behind v n) p ≡ place v (n + p)
behind_place v n p = add_assoc v.base (v.stride * n) (v.stride * p) ∙ ap (λ (x : ℕ). v.base + x) (sym (mul-add v.stride n p))

pub column_place : (v : View) (p m q : ℕ) → place (column v p m) q ≡ place v (q * m + p)
column_place v p m q =
    let e : v.stride * m * q ≡ v.stride * (q * m) = mul_assoc v.stride m q ∙ ap (λ (x : ℕ). v.stride * x) (mul_comm m q) in
    let f : v.stride * (q * m + p) ≡ v.stride * (q * m) + v.stride * p = mul-add v.stride (q * m) p in
    omega arith

pub row_place : (v : View) (q m p : ℕ) → place (row v q m) p ≡ place v (q * m + p)
row_place v q m p = behind_place v (q * m) p

module _ (v : View) (n m : ℕ) (fits : Fits v (n + m)) where
  abbrev total : v.stride * (n + m) ≡ v.stride * n + v.stride * m
  total = mul-add v.stride n m

  -- the states of the first part end below 480
  pub behind_low : place v n ≤ 480
  behind_low = go n m fits
    where
      go : (n m : ℕ) → Fits v (n + m) → place v n ≤ 480
      go n (suc m) f = let h = f.room n (omega arith) in omega arith
      go (suc n) zero f =
          let h = f.room n (omega arith) in
          let e : v.stride * suc n ≡ v.stride * n + v.stride = mul-suc v.stride n in
          let s : v.stride * (suc n + 0) ≡ v.stride * suc n = ap (λ (x : ℕ). v.stride * x) (omega arith) in
          let l = f.spread in
          omega arith
      go zero zero f = let l = f.low in let e = mul-zero v.stride in omega arith

  pub fits_behind : Fits (behind v n) m
  fits_behind = record {
    apart = fits.apart;
    low = behind_low;
    spread = let t = total in let s = fits.spread in omega arith;
    room = λ p h. subst (λ (x : ℕ). x < 240) (sym (behind_place v n p)) (fits.room (n + p) (omega arith));
  }

module _ (v : View) (n m : ℕ) (fits : Fits v (n * m)) where
  pub fits_column : (p : ℕ) → p < m → 1 ≤ n → Fits (column v p m) n
  fits_column p h g = record {
    apart = let some : 1 ≤ m = omega arith in let e : 1 * 1 ≤ v.stride * m = mul-le-mul fits.apart some in omega arith;
    low = let r = fits.room p (first g) in omega arith;
    spread = subst (λ (x : ℕ). x ≤ 240) (ap (λ (x : ℕ). v.stride * x) (mul_comm n m) ∙ sym (mul_assoc v.stride m n)) fits.spread;
    room = λ q k. subst (λ (x : ℕ). x < 240) (sym (column_place v p m q)) (fits.room (q * m + p) (pair_below n m q p k h));
  }
    where
      first : 1 ≤ n → p < n * m
      first g = let same : m ≤ m = omega arith in let e : 1 * m ≤ n * m = mul-le-mul g same in omega arith

  pub fits_row : (q : ℕ) → q < n → 1 ≤ m → Fits (row v q m) m
  fits_row q h g = record {
    apart = fits.apart;
    low = let r = fits.room (q * m + 0) (pair_below n m q 0 h g) in let e : place v (q * m + 0) ≡ place v (q * m) = ap (place v) (omega arith) in omega arith;
    spread = let e : v.stride * (1 * m) ≤ v.stride * (n * m) = mul-le-mul (omega arith) (mul-le-mul (omega arith) (omega arith)) in
        let f : v.stride * (1 * m) ≡ v.stride * m = ap (λ (x : ℕ). v.stride * x) (omega arith) in let s = fits.spread in omega arith;
    room = λ p k. subst (λ (x : ℕ). x < 240) (sym (row_place v q m p)) (fits.room (q * m + p) (pair_below n m q p h k));
  }
