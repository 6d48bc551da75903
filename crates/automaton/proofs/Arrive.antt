-- What the starts of a stretch of letters have reached, after each letter and in the end.
use Rattle.std.proofs.Common.{◌≡◌, ℕ, zero, suc, ◌+◌, ◌-◌, ◌<◌, ◌≤◌, Bool, true, false, ◌&&◌, ◌||◌, eqb, ltb, leb, ◌⊎◌, List, length, take, sym, refl, ap, ◌∙◌, ap₂, inl, inr, arith}
use Rattle.std.proofs.Math.Bool.{and_comm}
use Rattle.std.proofs.lemmas.Bool.{cases_lt, cases_order}
use Rattle.std.proofs.lemmas.Bool.Decides.{nat_tests}
use Rattle.bits.specs.declared.places.Places.{Places}
use Rattle.bits.specs.Member.{member}
use Rattle.psl.specs.Syntax.{Sequence}
use Rattle.psl.specs.Automaton.{live, live_start, accepts, extends}
use Rattle.psl.specs.Evaluation.{some_below, reach}
use Rattle.psl.specs.OptionalClock.{Clock}
use Rattle.truth.specs.Rows.{word}
use Rattle.automaton.specs.Reached.{inside, Reaches}
use Rattle.automaton.specs.Views.{Hopeful}
use Rattle.automaton.proofs.Moves.{any_same, any_none}
use Rattle.automaton.proofs.Follow.{length_word, take_word, after, Followed, Found, outside, within}

-- two properties that agree below n
some_same : (n : ℕ) (P Q : ℕ → Bool) → ((j : ℕ) → j < n → P j ≡ Q j) → some_below n P ≡ some_below n Q
some_same zero P Q h = refl
some_same (suc n) P Q h = ap₂ ◌||◌ (some_same n P Q (λ j g. h j (omega arith))) (h n (omega arith))

module _ (own other : List ℕ) (k : Clock) (r : Sequence) (targets : ℕ → Bool) where
  -- the letters from x to j places on match, and there is a target
  abbrev hits : ℕ → ℕ → Bool
  hits x j = accepts k r (word own other x (suc j)) && targets (x + j)

  module _ (lo i : ℕ) (order : lo ≤ i) where
    -- after a letter those are found too that end at a target there
    pub found_more : (p e p' : Places) (flag : Bool) → Found own other k r targets lo i p
        → ((x : ℕ) → member e x ≡ ((leb lo x && ltb x (i + 1)) && accepts k r (word own other x (suc (i - x)))))
        → ((x : ℕ) → member p' x ≡ (member p x || (member e x && flag))) → flag ≡ targets i → Found own other k r targets lo (i + 1) p'
    found_more p e p' flag old ended step is x =
        step x ∙ ap₂ (λ (a b : Bool). a || (b && flag)) (old x) (ended x) ∙ go (cases_lt x lo) (cases_lt x (i + 1))
      where
        here : Bool
        here = accepts k r (word own other x (suc (i - x)))

        early : lo ≤ x → (x < i) ⊎ (i ≤ x) → ((leb lo x && ltb x i) && some_below (i - x) (hits x)) ≡ some_below (i - x) (hits x)
        early g (inl s) = within own other k r lo i order (some_below (i - x) (hits x)) x g s
        early g (inr s) =
            let none : 0 ≡ i - x = omega arith in
            outside own other k r lo i order (some_below (i - x) (hits x)) x (inr s) ∙ ap (λ (n : ℕ). some_below n (hits x)) none

        past : (x < lo) ⊎ (i + 1 ≤ x) → (x < lo) ⊎ (i ≤ x)
            → (((leb lo x && ltb x i) && some_below (i - x) (hits x)) || (((leb lo x && ltb x (i + 1)) && here) && flag))
            ≡ ((leb lo x && ltb x (i + 1)) && some_below (i + 1 - x) (hits x))
        past s s' =
            ap₂ (λ (a b : Bool). a || (b && flag)) (outside own other k r lo i order (some_below (i - x) (hits x)) x s')
            (outside own other k r lo (i + 1) (omega arith) here x s)
            ∙ sym (outside own other k r lo (i + 1) (omega arith) (some_below (i + 1 - x) (hits x)) x s)

        go : (x < lo) ⊎ (lo ≤ x) → (x < i + 1) ⊎ (i + 1 ≤ x)
            → (((leb lo x && ltb x i) && some_below (i - x) (hits x)) || (((leb lo x && ltb x (i + 1)) && here) && flag))
            ≡ ((leb lo x && ltb x (i + 1)) && some_below (i + 1 - x) (hits x))
        go (inl g) s = past (inl g) (inl g)
        go (inr g) (inr h) = past (inr h) (inr (omega arith))
        go (inr g) (inl h) =
            let at : i ≡ x + (i - x) = omega arith in
            let one : suc (i - x) ≡ i + 1 - x = omega arith in
            ap₂ (λ (a b : Bool). a || (b && flag)) (early g (cases_lt x i)) (within own other k r lo (i + 1) (omega arith) here x g h)
            ∙ ap (λ (b : Bool). some_below (i - x) (hits x) || (here && b)) (is ∙ ap targets at)
            ∙ ap (λ (n : ℕ). some_below n (hits x)) one
            ∙ sym (within own other k r lo (i + 1) (omega arith) (some_below (i + 1 - x) (hits x)) x g h)

  module _ (lo hi : ℕ) (order : lo ≤ hi) where
    -- a place is among those found, or some tops lead on from it, or it is the one behind the letters, exactly where a target is reached
    abbrev Here : Places → Places → Bool → Bool → ℕ → Type 0
    Here f h beyond flag x =
        ((eqb x hi && flag) || (member f x || (member h x && beyond)))
        ≡ (inside lo hi x && reach k r (λ j. targets (x + j)) beyond (word own other x (hi - x)))

    -- in the end those are added that some tops lead on, if they count, and then the place behind the letters
    pub arrived : (S : List Places) (f h g p : Places) (beyond flag : Bool) → Followed own other k r lo hi S
        → Found own other k r targets lo hi f → Hopeful k r S h → ((x : ℕ) → member g x ≡ (member f x || (member h x && beyond)))
        → ((x : ℕ) → member p x ≡ ((eqb x hi && flag) || member g x)) → flag ≡ (beyond && live_start r)
        → Reaches k r own other lo hi targets beyond p
    arrived S f h g p beyond flag followed found hopeful gathered put is x =
        put x ∙ ap (λ (b : Bool). (eqb x hi && flag) || b) (gathered x) ∙ go (cases_lt x lo) (cases_order x hi)
      where
        hopeless : (x < lo) ⊎ (hi ≤ x) → member h x ≡ false
        hopeless s =
            hopeful x
            ∙ any_same k r _ (λ q. false) (λ q. ap (λ (b : Bool). b && live k r q) (followed q x ∙ outside own other k r lo hi order (after own other k r x (hi - x) q) x s))
            ∙ any_none k r (λ q. false)

        unfound : (x < lo) ⊎ (hi ≤ x) → member f x ≡ false
        unfound s = found x ∙ outside own other k r lo hi order (some_below (hi - x) (hits x)) x s

        gone : (x < lo) ⊎ (hi ≤ x) → eqb x hi ≡ false → inside lo hi x ≡ false → Here f h beyond flag x
        gone s e o =
            ap₂ (λ (a b : Bool). (a && flag) || b) e (ap₂ (λ (a b : Bool). a || (b && beyond)) (unfound s) (hopeless s))
            ∙ sym (ap (λ (b : Bool). b && reach k r (λ j. targets (x + j)) beyond (word own other x (hi - x))) o)

        reached : lo ≤ x → x < hi → Here f h beyond flag x
        reached a b =
            let n = hi - x - 1 in
            let long : hi - x ≡ suc n = omega arith in
            let e : eqb x hi ≡ false = grind (arith, nat_tests) in
            let o : inside lo hi x ≡ true = grind (arith, nat_tests) in
            let many = length_word own other x (hi - x) in
            let on : member h x ≡ extends k r (word own other x (hi - x)) =
            hopeful x
            ∙ any_same k r _ (λ q. after own other k r x (suc n) q && live k r q)
            (λ q. ap (λ (b : Bool). b && live k r q) (followed q x ∙ within own other k r lo hi order (after own other k r x (hi - x) q) x a b ∙ ap (λ (m : ℕ). after own other k r x m q) long))
            ∙ ap (λ (m : ℕ). extends k r (word own other x m)) (sym long) in
            let met : member f x ≡ some_below (length (word own other x (hi - x))) (λ j. accepts k r (take (suc j) (word own other x (hi - x))) && targets (x + j)) =
            found x
            ∙ within own other k r lo hi order (some_below (hi - x) (hits x)) x a b
            ∙ some_same (hi - x) (hits x) _ (λ j low. ap (λ u. accepts k r u && targets (x + j)) (sym (take_word own other x (suc j) (hi - x) (omega arith))))
            ∙ ap (λ (m : ℕ). some_below m (λ j. accepts k r (take (suc j) (word own other x (hi - x))) && targets (x + j))) (sym many) in
            ap₂ (λ (a b : Bool). (a && flag) || b) e (ap₂ (λ (a b : Bool). a || b) met (ap (λ (b : Bool). b && beyond) on ∙ and_comm (extends k r (word own other x (hi - x))) beyond))
            ∙ sym (ap (λ (b : Bool). b && reach k r (λ j. targets (x + j)) beyond (word own other x (hi - x))) o)

        go : (x < lo) ⊎ (lo ≤ x) → (x ≡ hi) ⊎ ((x < hi) ⊎ (hi < x)) → Here f h beyond flag x
        go (inl a) (inl b) = absurd (omega arith)
        go (inl a) (inr s) = gone (inl a) (let e : eqb x hi ≡ false = grind (arith, nat_tests) in e) (let o : inside lo hi x ≡ false = grind (arith, nat_tests) in o)
        go (inr a) (inl b) =
            let none : hi - x ≡ 0 = omega arith in
            let e : eqb x hi ≡ true = grind (arith, nat_tests) in
            let o : inside lo hi x ≡ true = grind (arith, nat_tests) in
            ap₂ (λ (a b : Bool). (a && flag) || b) e (ap₂ (λ (a b : Bool). a || (b && beyond)) (unfound (inr (omega arith))) (hopeless (inr (omega arith))))
            ∙ last flag
            ∙ is
            ∙ ap (λ (m : ℕ). reach k r (λ j. targets (x + j)) beyond (word own other x m)) (sym none)
            ∙ sym (ap (λ (b : Bool). b && reach k r (λ j. targets (x + j)) beyond (word own other x (hi - x))) o)
          where
            last : (b : Bool) → ((true && b) || (false || (false && beyond))) ≡ b
            last b = grind (arith, nat_tests)
        go (inr a) (inr (inl b)) = reached a b
        go (inr a) (inr (inr b)) = gone (inr (omega arith)) (let e : eqb x hi ≡ false = grind (arith, nat_tests) in e) (let o : inside lo hi x ≡ false = grind (arith, nat_tests) in o)
