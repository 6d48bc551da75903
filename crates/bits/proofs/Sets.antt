-- Sets in words of any width: one word set, all words made alike, nothing past the words.
use Rattle.std.proofs.Common.{◌≡◌, ℕ, zero, suc, ◌+◌, ◌*◌, ◌/◌, ◌%◌, ◌<◌, ◌≤◌, Bool, false, ◌&&◌, eqb, ltb, ◌⊎◌, List, length, get_or, set, replicate, sym, refl, ap, ◌∙◌, ap₂, inl, inr, le_trans, arith, get_or-set_other, get_or-set_same, subst}
use Rattle.std.proofs.lemmas.Nat.{div-add-mod', div_below, le-div}
use Rattle.std.proofs.lemmas.Bool.{eq-eqb, ne_eqb, lt-ltb, le-ltb, cases_eq, cases_lt}
use Rattle.std.proofs.lemmas.List.{get_or_past}
use Rattle.std.specs.Array.{IsFromFnResultFrom}
use denote.Param.Members.{Mut, Called}
use Rattle.bits.specs.Words.{bit, in_words, EachMadeBy}
use Rattle.bits.proofs.Bitwise.{bit_zero}

-- below n each word of zs is what R allows to be made of those of xs and ys, and from n on it is that of xs
abbrev pub MadeBy : (ℕ → ℕ → ℕ → Type 0) → ℕ → List ℕ → List ℕ → List ℕ → Type 0
MadeBy R n xs ys zs =
    ((k : ℕ) → k < n → R (get_or xs k 0) (get_or ys k 0) (get_or zs k 0)) × ((k : ℕ) → n ≤ k → get_or zs k 0 ≡ get_or xs k 0)

-- each word below n is made by its number
abbrev pub Written : (ℕ → ℕ) → ℕ → List ℕ → Type 0
Written f n ws = (q : ℕ) → q < n → get_or ws q 0 ≡ f q

-- a closure that each call leaves as it was, and that gives f of each number, has written f
pub written_by_calls : {F : Type 0} (g : Mut F (ℕ × Unit {0}) ℕ) (p : F) (f : ℕ → ℕ)
    → ((i y : ℕ) (q : F) → Called g p (i, tt {0}) y q → (y ≡ f i) × (q ≡ p)) → (ws : List ℕ) (n : ℕ) → IsFromFnResultFrom g p ws 0 n → Written f n ws
written_by_calls {F} g p f step ws n calls q h = go 0 n p refl calls q (omega arith) (omega arith)
  where
    go : (i n : ℕ) (o : F) → o ≡ p → IsFromFnResultFrom g o ws i n → (k : ℕ) → i ≤ k → k < i + n → get_or ws k 0 ≡ f k
    go i zero o e c k lo hi = let z : ⊥ = omega arith in absurd z
    go i (suc n) o e (r, y, is, call, more) k lo hi =
        let s = step i y r (subst (λ o. Called g o (i, tt {0}) y r) e call) in
        elim (cases_eq k i) [
          | inl j ↦ ap (λ (m : ℕ). get_or ws m 0) j ∙ is.1 0 ∙ s.0 ∙ ap f (sym j)
          | inr j ↦ go (i + 1) n r s.1 more k (omega arith) (omega arith)
        ]

-- the words of a set that are each made of those of two sets, with nothing behind them
pub made_by_each : (f : ℕ → ℕ → ℕ) (xs ys zs : List ℕ) → length xs ≤ 9 → length zs ≤ 9
    → EachMadeBy (λ x y z. z ≡ f x y) xs ys zs → MadeBy (λ x y z. z ≡ f x y) 9 xs ys zs
made_by_each f xs ys zs hx hz made = (made, λ k h. get_or_past zs k 0 (omega arith) ∙ sym (get_or_past xs k 0 (omega arith)))

past : (ws : List ℕ) (k n : ℕ) → length ws ≤ k → bit (get_or ws k 0) n ≡ false
past ws k n h = ap (λ (z : ℕ). bit z n) (get_or_past ws k 0 h) ∙ bit_zero n

zeros : (n i : ℕ) → ◌≡◌ {A = ℕ} (get_or (replicate n 0) i 0) 0
zeros zero i = refl
zeros (suc n) zero = refl
zeros (suc n) (suc i) = zeros n i

module _ (w : ℕ) where
  -- nothing past the words
  pub in_past : (ws : List ℕ) (n : ℕ) → length ws ≤ n / w → in_words w ws n ≡ false
  unfolding in_words
  in_past ws n h = past ws (n / w) (n % w) h

  same_number : (j k : ℕ) → j / w ≡ k / w → eqb (j % w) (k % w) ≡ eqb j k
  same_number j k e =
      elim (cases_eq j k) [
        | inl i ↦ ap (λ (z : ℕ). eqb (z % w) (k % w)) i ∙ eq-eqb (k % w) (k % w) refl ∙ sym (eq-eqb j k i)
        | inr n ↦ ne_eqb (j % w) (k % w) (λ i. n (sym (div-add-mod' j w) ∙ ap₂ (λ (q r : ℕ). q * w + r) e i ∙ div-add-mod' k w)) ∙ sym (ne_eqb j k n)
      ]

  -- the word of k set to v, whose bits are the old ones but for that of k
  pub in_set : (g : Bool → Bool → Bool) → ((b : Bool) → g false b ≡ b) → (ws : List ℕ) (k v : ℕ) → k / w < length ws
      → ((n : ℕ) → bit v n ≡ g (eqb n (k % w)) (bit (get_or ws (k / w) 0) n))
      → (j : ℕ) → in_words w (set ws (k / w) v) j ≡ g (eqb j k) (in_words w ws j)
  unfolding in_words
  in_set g stays ws k v h is j = go (cases_eq (j / w) (k / w))
    where
      go : (j / w ≡ k / w) ⊎ (j / w ≡ k / w → ⊥) → bit (get_or (set ws (k / w) v) (j / w) 0) (j % w) ≡ g (eqb j k) (bit (get_or ws (j / w) 0) (j % w))
      go (inl e) =
          ap (λ (q : ℕ). bit (get_or (set ws (k / w) v) q 0) (j % w)) e
          ∙ ap (λ (z : ℕ). bit z (j % w)) (get_or-set_same ws (k / w) v 0 h)
          ∙ is (j % w)
          ∙ ap₂ (λ b (q : ℕ). g b (bit (get_or ws q 0) (j % w))) (same_number j k e) (sym e)
      go (inr n) =
          let other : eqb j k ≡ false = ne_eqb j k (λ i. n (ap (λ (z : ℕ). z / w) i)) in
          ap (λ (z : ℕ). bit z (j % w)) (get_or-set_other ws (k / w) (j / w) v 0 n)
          ∙ sym (stays (bit (get_or ws (j / w) 0) (j % w)))
          ∙ ap (λ b. g b (bit (get_or ws (j / w) 0) (j % w))) (sym other)

  -- words made word by word are made bit by bit, if nothing is made of nothing
  pub in_each : (f : ℕ → ℕ → ℕ) (op : Bool → Bool → Bool) → ((a b n : ℕ) → bit (f a b) n ≡ op (bit a n) (bit b n)) → op false false ≡ false
      → (xs ys zs : List ℕ) (n : ℕ) → length xs ≤ n → length ys ≤ n → MadeBy (λ x y z. z ≡ f x y) n xs ys zs
      → (j : ℕ) → in_words w zs j ≡ op (in_words w xs j) (in_words w ys j)
  unfolding in_words
  in_each f op bits none xs ys zs n hx hy made j = go (cases_lt (j / w) n)
    where
      go : (j / w < n) ⊎ (n ≤ j / w) → bit (get_or zs (j / w) 0) (j % w) ≡ op (bit (get_or xs (j / w) 0) (j % w)) (bit (get_or ys (j / w) 0) (j % w))
      go (inl h) = ap (λ (z : ℕ). bit z (j % w)) (made.0 (j / w) h) ∙ bits (get_or xs (j / w) 0) (get_or ys (j / w) 0) (j % w)
      go (inr h) =
          let x = past xs (j / w) (j % w) (omega arith) in
          ap (λ (z : ℕ). bit z (j % w)) (made.1 (j / w) h) ∙ x ∙ sym none ∙ ap₂ op (sym x) (sym (past ys (j / w) (j % w) (omega arith)))

  -- n words, each made by its number
  pub in_written : (f : ℕ → ℕ) (ws : List ℕ) (n : ℕ) → 0 < w → length ws ≤ n → Written f n ws
      → (P : ℕ → Bool) → ((j : ℕ) → bit (f (j / w)) (j % w) ≡ P j) → (j : ℕ) → in_words w ws j ≡ (ltb j (n * w) && P j)
  unfolding in_words
  in_written f ws n pos long is P bits j = go (cases_lt j (n * w))
    where
      go : (j < n * w) ⊎ (n * w ≤ j) → bit (get_or ws (j / w) 0) (j % w) ≡ (ltb j (n * w) && P j)
      go (inl h) = ap (λ (z : ℕ). bit z (j % w)) (is (j / w) (div_below j w n pos h)) ∙ bits j ∙ sym (ap (λ b. b && P j) (lt-ltb j (n * w) h))
      go (inr h) = past ws (j / w) (j % w) (le_trans long (le-div n j w pos h)) ∙ sym (ap (λ b. b && P j) (le-ltb j (n * w) h))

  -- the words without bits are the empty set
  pub in_zeros : (n j : ℕ) → in_words w (replicate n 0) j ≡ false
  unfolding in_words
  in_zeros n j = ap (λ (z : ℕ). bit z (j % w)) (zeros n (j / w)) ∙ bit_zero (j % w)

  -- the bit of n, read from its word
  pub in_read : (ws : List ℕ) (n v : ℕ) → v ≡ get_or ws (n / w) 0 → bit v (n % w) ≡ in_words w ws n
  unfolding in_words
  in_read ws n v is = ap (λ (z : ℕ). bit z (n % w)) is
