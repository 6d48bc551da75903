-- The starts in the states after a stretch of letters, and what they have reached.
use Rattle.std.proofs.Common.{◌≡◌, ℕ, zero, suc, ◌+◌, ◌-◌, ◌<◌, ◌≤◌, Bool, true, false, ◌&&◌, ◌||◌, eqb, ltb, leb, ◌⊎◌, List, [], ◌∷◌, ◌++◌, length, take, sym, refl, ap, ◌∙◌, ap₂, inl, inr, arith}
use Rattle.std.proofs.lemmas.Bool.{cases_lt, cases_order}
use Rattle.std.proofs.lemmas.Bool.Decides.{nat_tests}
use Rattle.bits.specs.declared.places.Places.{Places}
use Rattle.bits.specs.Member.{member}
use Rattle.psl.specs.Syntax.{Sequence}
use Rattle.psl.specs.Letter.{Letter}
use Rattle.psl.specs.Automaton.{State, init, step, any, run, accepts}
use Rattle.psl.specs.Evaluation.{some_below}
use Rattle.psl.specs.OptionalClock.{Clock}
use Rattle.truth.specs.Rows.{word}
use Rattle.automaton.specs.Clocks.{letter_at}
use Rattle.automaton.specs.Moves.{moved, ended}
use Rattle.automaton.specs.Views.{whole, starts_in, MovedBy, EndedIn}
use Rattle.automaton.proofs.Moves.{any_same, any_none}
use Rattle.automaton.proofs.PartMoves.{moved_same, ended_same}

-- one letter more
run_push : (k : Clock) (r : Sequence) (S : State k r → Bool) (v : List Letter) (l : Letter) (q : State k r)
    → run k r S (v ++ (l ∷ [])) q ≡ any k r (λ p. run k r S v p && step k r l p q)
run_push k r S [] l q = refl
run_push k r S (m ∷ v) l q = run_push k r (λ q'. any k r (λ p. S p && step k r m p q')) v l q

module _ (own other : List ℕ) where
  word_push : (x n : ℕ) → word own other x (suc n) ≡ word own other x n ++ (letter_at own other (x + n) ∷ [])
  word_push x zero = ap (λ (y : ℕ). letter_at own other y ∷ []) (omega arith)
  word_push x (suc n) =
      ap (λ v. letter_at own other x ∷ v) (word_push (suc x) n ∙ ap (λ (y : ℕ). word own other (suc x) n ++ (letter_at own other y ∷ [])) (omega arith))

  pub length_word : (x n : ℕ) → length (word own other x n) ≡ n
  length_word x zero = refl
  length_word x (suc n) = ap suc (length_word (suc x) n)

  pub take_word : (x j n : ℕ) → j ≤ n → take j (word own other x n) ≡ word own other x j
  take_word x zero n h = take_zero (word own other x n)
    where
      take_zero : (v : List Letter) → take 0 v ≡ []
      take_zero [] = refl
      take_zero (l ∷ v) = refl
  take_word x (suc j) zero h = absurd (omega arith)
  take_word x (suc j) (suc n) h = ap (λ v. letter_at own other x ∷ v) (take_word (suc x) j n (omega arith))

  module _ (k : Clock) (r : Sequence) where
    -- the states after the n letters from x on, if there are any
    abbrev pub after : ℕ → ℕ → State k r → Bool
    after x zero q = false
    after x (suc n) q = run k r (init k r (letter_at own other x)) (word own other (suc x) n) q

    -- the first letter, and a letter more
    after_first : (x : ℕ) (q : State k r) → moved k r (letter_at own other x) true (λ p. false) q ≡ after x 1 q
    after_first x q = ap (λ (b : Bool). init k r (letter_at own other x) q || b) (any_none k r (λ p. false)) ∙ same (init k r (letter_at own other x) q)
      where
        same : (b : Bool) → (b || false) ≡ b
        same b = grind (arith, nat_tests)

    after_next : (x n : ℕ) (q : State k r) → moved k r (letter_at own other (x + suc n)) false (after x (suc n)) q ≡ after x (suc (suc n)) q
    after_next x n q =
        ap (λ (y : ℕ). any k r (λ p. after x (suc n) p && step k r (letter_at own other y) p q)) (let e : x + suc n ≡ suc x + n = omega arith in e)
        ∙ sym (ap (λ v. run k r (init k r (letter_at own other x)) v q) (word_push (suc x) n)
        ∙ run_push k r (init k r (letter_at own other x)) (word own other (suc x) n) (letter_at own other (suc x + n)) q)

    moved_none : (l : Letter) (S : State k r → Bool) (q : State k r) → ((p : State k r) → S p ≡ false) → moved k r l false S q ≡ false
    moved_none l S q h = any_same k r _ (λ p. false && false) (λ p. ap (λ (b : Bool). b && step k r l p q) (h p)) ∙ any_none k r (λ p. false)

    -- the starts from lo on, in the states after the letters up to i
    abbrev pub Followed : ℕ → ℕ → List Places → Type 0
    Followed lo i S = (q : State k r) (x : ℕ) → starts_in S whole k r x q ≡ ((leb lo x && ltb x i) && after x (i - x) q)

    -- those of them that met a target
    abbrev pub Found : (ℕ → Bool) → ℕ → ℕ → Places → Type 0
    Found targets lo i p =
        (x : ℕ) → member p x ≡ ((leb lo x && ltb x i) && some_below (i - x) (λ j. accepts k r (word own other x (suc j)) && targets (x + j)))

    module _ (lo i : ℕ) (order : lo ≤ i) where
      -- a start that is not there
      pub outside : (b : Bool) (x : ℕ) → (x < lo) ⊎ (i ≤ x) → ((leb lo x && ltb x i) && b) ≡ false
      outside b x (inl h) = let e : leb lo x ≡ false = grind (arith, nat_tests) in ap (λ (c : Bool). (c && ltb x i) && b) e
      outside b x (inr h) = let e : ltb x i ≡ false = grind (arith, nat_tests) in ap (λ (c : Bool). (leb lo x && c) && b) e ∙ same (leb lo x)
        where
          same : (c : Bool) → ((c && false) && b) ≡ false
          same c = grind (arith, nat_tests)

      -- a start that is
      pub within : (b : Bool) (x : ℕ) → lo ≤ x → x < i → ((leb lo x && ltb x i) && b) ≡ b
      within b x h g =
          let d : leb lo x ≡ true = grind (arith, nat_tests) in
          let e : ltb x i ≡ true = grind (arith, nat_tests) in
          ap₂ (λ (c f : Bool). (c && f) && b) d e

    module _ (lo i : ℕ) (order : lo ≤ i) where
      pub followed_more : (S S' : List Places) (here : ℕ → Bool) → ((x : ℕ) → here x ≡ eqb x i) → Followed lo i S
          → MovedBy k r (letter_at own other i) here whole S S' → Followed lo (i + 1) S'
      followed_more S S' here at old step q x = step q x ∙ go (cases_order x i)
        where
          l : Letter
          l = letter_at own other i

          gone : (x ≡ i → ⊥) → (x < lo) ⊎ (i ≤ x) → (x < lo) ⊎ (i + 1 ≤ x) → moved k r (letter_at own other i) (here x) (starts_in S whole k r x) q ≡ ((leb lo x && ltb x (i + 1)) && after x (i + 1 - x) q)
          gone n a b =
              moved_same k r (letter_at own other i) (here x) false (starts_in S whole k r x) (λ p. false) q (at x ∙ let e : eqb x i ≡ false = grind (arith, nat_tests) in e)
              (λ p. old p x ∙ outside lo i order (after x (i - x) p) x a)
              ∙ moved_none (letter_at own other i) (λ p. false) q (λ p. refl)
              ∙ sym (outside lo (i + 1) (omega arith) (after x (i + 1 - x) q) x b)

          go : (x ≡ i) ⊎ ((x < i) ⊎ (i < x)) → moved k r (letter_at own other i) (here x) (starts_in S whole k r x) q ≡ ((leb lo x && ltb x (i + 1)) && after x (i + 1 - x) q)
          go (inl e) =
              moved_same k r (letter_at own other i) (here x) true (starts_in S whole k r x) (λ p. false) q (at x ∙ let f : eqb x i ≡ true = grind (arith, nat_tests) in f)
              (λ p. old p x ∙ outside lo i order (after x (i - x) p) x (inr (omega arith)))
              ∙ after_first i q
              ∙ ap₂ (λ (y n : ℕ). after y n q) (sym e) (let f : 1 ≡ i + 1 - x = omega arith in f)
              ∙ sym (within lo (i + 1) (omega arith) (after x (i + 1 - x) q) x (omega arith) (omega arith))
          go (inr (inr h)) = gone (λ e. omega arith) (inr (omega arith)) (inr (omega arith))
          go (inr (inl h)) = side (cases_lt x lo)
            where
              side : (x < lo) ⊎ (lo ≤ x) → moved k r (letter_at own other i) (here x) (starts_in S whole k r x) q ≡ ((leb lo x && ltb x (i + 1)) && after x (i + 1 - x) q)
              side (inl g) = gone (λ e. omega arith) (inl g) (inl g)
              side (inr g) =
                  let n = i - x - 1 in
                  let is : i ≡ x + suc n = omega arith in
                  moved_same k r (letter_at own other i) (here x) false (starts_in S whole k r x) (after x (suc n)) q (at x ∙ let e : eqb x i ≡ false = grind (arith, nat_tests) in e)
                  (λ p. old p x ∙ within lo i order (after x (i - x) p) x g h ∙ ap (λ (m : ℕ). after x m p) (let e : i - x ≡ suc n = omega arith in e))
                  ∙ ap (λ (y : ℕ). moved k r (letter_at own other y) false (after x (suc n)) q) is
                  ∙ after_next x n q
                  ∙ ap (λ (m : ℕ). after x m q) (let e : suc (suc n) ≡ i + 1 - x = omega arith in e)
                  ∙ sym (within lo (i + 1) (omega arith) (after x (i + 1 - x) q) x g (omega arith))

      -- the starts that have ended match the letters from them up to i
      pub ended_accepts : (S : List Places) (p : Places) → Followed lo (i + 1) S → EndedIn k r whole S p → (x : ℕ)
          → member p x ≡ ((leb lo x && ltb x (i + 1)) && accepts k r (word own other x (suc (i - x))))
      ended_accepts S p f e x = e x ∙ go (cases_lt x lo) (cases_lt x (i + 1))
        where
          go : (x < lo) ⊎ (lo ≤ x) → (x < i + 1) ⊎ (i + 1 ≤ x) → ended k r (starts_in S whole k r x) ≡ ((leb lo x && ltb x (i + 1)) && accepts k r (word own other x (suc (i - x))))
          go (inr g) (inl h) =
              ended_same k r _ _ (λ q. f q x ∙ within lo (i + 1) (omega arith) (after x (i + 1 - x) q) x g h ∙ ap (λ (m : ℕ). after x m q) (let e : i + 1 - x ≡ suc (i - x) = omega arith in e))
              ∙ sym (within lo (i + 1) (omega arith) (accepts k r (word own other x (suc (i - x)))) x g h)
          go (inl g) s = ended_same k r _ (λ q. false) (λ q. f q x ∙ outside lo (i + 1) (omega arith) (after x (i + 1 - x) q) x (inl g)) ∙ any_none k r (λ q. false)
              ∙ sym (outside lo (i + 1) (omega arith) (accepts k r (word own other x (suc (i - x)))) x (inl g))
          go (inr g) (inr h) = ended_same k r _ (λ q. false) (λ q. f q x ∙ outside lo (i + 1) (omega arith) (after x (i + 1 - x) q) x (inr h)) ∙ any_none k r (λ q. false)
              ∙ sym (outside lo (i + 1) (omega arith) (accepts k r (word own other x (suc (i - x)))) x (inr h))
