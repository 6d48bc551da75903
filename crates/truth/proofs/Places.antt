-- The rows of a table: one row written leaves those before it, and makes a word one letter longer.
use Rattle.std.proofs.Common.{◌≡◌, ℕ, zero, suc, ◌+◌, ◌-◌, ◌*◌, ◌<◌, ◌≤◌, min, ◌⊎◌, List, [], ◌∷◌, ◌++◌, length, take, drop, sym, refl, ap, ◌∙◌, ap₂, inl, inr, arith, length-append, length-drop, take-append-drop, length-take}
use lib.Seq.{take-append-le, drop-append-le}
use borrow.Rule.Slice.PartMut.{put_mid}
use Rattle.std.proofs.lemmas.List.{take_at, drop_at, take_all, drop_all}
use Rattle.std.proofs.lemmas.Bool.{cases_lt}
use Rattle.truth.specs.Rows.{row_at, letter_of, word}

-- what stands after a row does not matter to it
front_only : (p x : List ℕ) (n w : ℕ) → n + w ≤ length p → take w (drop n (p ++ x)) ≡ take w (drop n p)
front_only p x n w h =
    ap (take w) (drop-append-le n p x (omega arith)) ∙ take-append-le w (drop n p) x (simp length-drop (omega arith))

-- the table u with the row `new` at place i
module _ (u new : List ℕ) (i : ℕ) (long : length new ≡ 33) (room : i * 33 + 33 ≤ length u) where
  abbrev written : List ℕ
  written = put_mid (i * 33) ((i * 33 + 33) - i * 33) u new

  at_front : length (take (i * 33) u) ≡ i * 33
  at_front = simp length-take (omega arith)

  pub row_before : (k : ℕ) → k < i → row_at written k ≡ row_at u k
  row_before k h =
      let fits : k * 33 + 33 ≤ length (take (i * 33) u) = omega (arith, at_front) in
      front_only (take (i * 33) u) (new ++ drop ((i * 33 + 33) - i * 33) (drop (i * 33) u)) (k * 33) 33 fits
      ∙ sym (front_only (take (i * 33) u) (drop (i * 33) u) (k * 33) 33 fits)
      ∙ ap (λ v. row_at v k) (take-append-drop (i * 33) u)

  pub row_here : row_at written i ≡ new
  row_here =
      ap (take 33) (drop_at (take (i * 33) u) (new ++ drop ((i * 33 + 33) - i * 33) (drop (i * 33) u)) (i * 33) at_front)
      ∙ take_at new (drop ((i * 33 + 33) - i * 33) (drop (i * 33) u)) 33 long

  pub length_written : length written ≡ length u
  length_written =
      length-append (take (i * 33) u) (new ++ drop ((i * 33 + 33) - i * 33) (drop (i * 33) u))
      ∙ ap (λ n. length (take (i * 33) u) + n) (length-append new (drop ((i * 33 + 33) - i * 33) (drop (i * 33) u)))
      ∙ simp (length-drop, length-take) (omega (arith, long))

-- a word with its last letter apart
pub word_push : (u v : List ℕ) (k n : ℕ) → word u v k (suc n) ≡ word u v k n ++ (letter_of (row_at u (k + n)) (row_at v (k + n)) ∷ [])
word_push u v k zero = ap (λ (j : ℕ). letter_of (row_at u j) (row_at v j) ∷ []) (let e : k ≡ k + 0 = omega arith in e)
word_push u v k (suc n) =
    ap (λ w. letter_of (row_at u k) (row_at v k) ∷ w)
    (word_push u v (suc k) n ∙ ap (λ (j : ℕ). word u v (suc k) n ++ (letter_of (row_at u j) (row_at v j) ∷ [])) (let e : suc k + n ≡ k + suc n = omega arith in e))

-- a word is told by its rows
pub word_same : (u v u' v' : List ℕ) (k n : ℕ) → ((j : ℕ) → j < k + n → row_at u' j ≡ row_at u j) → ((j : ℕ) → j < k + n → row_at v' j ≡ row_at v j)
    → word u' v' k n ≡ word u v k n
word_same u v u' v' k zero same other = refl
word_same u v u' v' k (suc n) same other =
    ap₂ (λ l w. l ∷ w) (ap₂ letter_of (same k (omega arith)) (other k (omega arith)))
    (word_same u v u' v' (suc k) n (λ j h. same j (omega arith)) (λ j h. other j (omega arith)))

-- the row of a place, cut to the bytes there are
pub row_cut : (bytes : List ℕ) (k from to : ℕ) → from ≡ min (k * 33) (length bytes) → to ≡ min (from + 33) (length bytes)
    → take (to - from) (drop from bytes) ≡ row_at bytes k
row_cut bytes k from to is end_is = go (cases_lt (k * 33 + 33) (length bytes)) (cases_lt (length bytes) (k * 33))
  where
    go : (k * 33 + 33 < length bytes) ⊎ (length bytes ≤ k * 33 + 33) → (length bytes < k * 33) ⊎ (k * 33 ≤ length bytes)
        → take (to - from) (drop from bytes) ≡ row_at bytes k
    go (inl h) _ = ap₂ (λ (n m : ℕ). take n (drop m bytes)) (let e : to - from ≡ 33 = omega arith in e) (let e : from ≡ k * 33 = omega arith in e)
    go (inr h) (inr b) =
        let here : from ≡ k * 33 = omega arith in
        ap (λ (m : ℕ). take (to - from) (drop m bytes)) here
        ∙ take_all (to - from) (drop (k * 33) bytes) (simp length-drop (omega arith))
        ∙ sym (take_all 33 (drop (k * 33) bytes) (simp length-drop (omega arith)))
    go (inr h) (inl b) =
        ap (take (to - from)) (drop_all from bytes (omega arith))
        ∙ take_all (to - from) [] (omega arith)
        ∙ sym (ap (take 33) (drop_all (k * 33) bytes (omega arith)))
