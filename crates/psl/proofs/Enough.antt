-- How many tops suffice: where no run of at most as many tops as there are states completes a match, none does.
use Rattle.std.proofs.Common.{◌≡◌, ℕ, zero, suc, pred, ◌<◌, ◌≤◌, Bool, true, false, not, ◌&&◌, ◌||◌, T, ◌⊎◌, List, [], ◌∷◌, ◌++◌, refl, inl, inr, mul-one, arith}
use Rattle.psl.specs.Syntax.{Sequence}
use Rattle.psl.specs.Letter.{Letter, top}
use Rattle.psl.specs.Automaton.{states, State, final, step, any, run_of_tops}
use Rattle.psl.specs.OptionalClock.{Clock, MatchesUnder}
use Rattle.psl.proofs.Accept.{Rest, final_right, init_right, step_right, any_in, any_out, after_right}
use Rattle.psl.proofs.Tests.{and_in, and_out, or_left, or_right, or_out, not_right, dec_T}
use Rattle.psl.proofs.Totals.{total_most, total_more, one, count, one_more, count_most, count_more}

-- a set that the next one does not add to, or a state that it adds
added : (k : Clock) (r : Sequence) (S R : State k r → Bool)
    → ((p : State k r) → T (R p) → T (S p)) ⊎ ((p : State k r) × T (R p) × (T (S p) → ⊥))
added k r S R = elim (dec_T (any k r (λ p. R p && not (S p)))) [
  | yes x ↦
      let (p, y) = any_out k r (λ p. R p && not (S p)) x in
      let (a, b) = and_out (R p) (not (S p)) y in
      inr (p, a, (not_right (S p)).0 b)
  | no n ↦ inl (λ p x. surely (S p) (λ z. n (any_in k r (λ p. R p && not (S p)) p (and_in (R p) (not (S p)) x ((not_right (S p)).1 z)))))
]
  where
    surely : (b : Bool) → ((T b → ⊥) → ⊥) → T b
    surely true n = tt
    surely false n = n (λ x. x)

module _ (k : Clock) (r : Sequence) where
  -- some run of at most n tops completes a match from the state
  abbrev within : ℕ → State k r → Bool
  within zero p = final k r p
  within (suc n) p = within n p || any k r (λ q. step k r top p q && within n q)

  further : (n : ℕ) (p : State k r) → T (within n p) → T (within (suc n) p)
  further n p x = or_left (within n p) (any k r (λ q. step k r top p q && within n q)) x

  -- one more top adds no state
  abbrev Settled : ℕ → Type 0
  Settled n = (p : State k r) → T (within (suc n) p) → T (within n p)

  settled_on : (n : ℕ) → Settled n → Settled (suc n)
  settled_on n s p x = go (or_out (within (suc n) p) (any k r (λ q. step k r top p q && within (suc n) q)) x)
    where
      go : T (within (suc n) p) ⊎ T (any k r (λ q. step k r top p q && within (suc n) q)) → T (within (suc n) p)
      go (inl y) = y
      go (inr y) =
          let (q, z) = any_out k r (λ q. step k r top p q && within (suc n) q) y in
          let (a, b) = and_out (step k r top p q) (within (suc n) q) z in
          or_right (within n p) (any k r (λ q. step k r top p q && within n q))
          (any_in k r (λ q. step k r top p q && within n q) q (and_in (step k r top p q) (within n q) a (s q b)))

  grows : (n : ℕ) → (p : State k r) × T (within (suc n) p) × (T (within n p) → ⊥) → count k r (within n) < count k r (within (suc n))
  grows n (p, x, y) = count_more k r (within n) (within (suc n)) (further n) p x y

  -- a state that the first top adds leads to one in which a match may end
  grows_first : (p : State k r) × T (within 1 p) × (T (within 0 p) → ⊥) → 1 ≤ count k r (within 0)
  grows_first (p, x, y) = go (or_out (within 0 p) (any k r (λ q. step k r top p q && within 0 q)) x)
    where
      go : T (within 0 p) ⊎ T (any k r (λ q. step k r top p q && within 0 q)) → 1 ≤ count k r (within 0)
      go (inl z) = absurd (y z)
      go (inr z) =
          let (q, a) = any_out k r (λ q. step k r top p q && within 0 q) z in
          let b = (and_out (step k r top p q) (within 0 q) a).1 in
          let more = total_more k r (λ p. 0) (λ p. one (within 0 p)) (λ p. omega arith) q (one_more false (within 0 q) b (λ z. z)) in
          omega arith

  settled_or : (n : ℕ) → Settled n ⊎ (suc (suc n) ≤ count k r (within (suc n)))
  settled_or zero = elim (added k r (within 0) (within 1)) [ inl s ↦ inl s | inr x ↦ inr (omega (arith, grows 0 x, grows_first x)) ]
  settled_or (suc n) = go (settled_or n) (added k r (within (suc n)) (within (suc (suc n))))
    where
      go : Settled n ⊎ (suc (suc n) ≤ count k r (within (suc n)))
          → Settled (suc n) ⊎ ((p : State k r) × T (within (suc (suc n)) p) × (T (within (suc n) p) → ⊥))
          → Settled (suc n) ⊎ (suc (suc (suc n)) ≤ count k r (within (suc (suc n))))
      go (inl s) x = inl (settled_on n s)
      go (inr h) (inl s) = inl s
      go (inr h) (inr x) = inr (omega (arith, grows (suc n) x))

  -- there are no more than so many states to add
  settled : Settled (pred (states k r))
  settled = go (states k r) refl (settled_or (pred (states k r)))
    where
      go : (m : ℕ) → states k r ≡ m → Settled (pred m) ⊎ (suc (suc (pred m)) ≤ count k r (within (suc (pred m)))) → Settled (pred m)
      go m e (inl s) = s
      go zero e (inr h) = absurd (omega (arith, count_most k r (within 1)))
      go (suc m) e (inr h) = absurd (omega (arith, count_most k r (within (suc m))))

  within_from : (n : ℕ) (p : State k r) → T (within 0 p) → T (within n p)
  within_from zero p x = x
  within_from (suc n) p x = further n p (within_from n p x)

  within_out : (n : ℕ) (p : State k r) → T (within n p) → (m : ℕ) × (m ≤ n) × Rest k r p (run_of_tops m)
  within_out zero p x = (0, omega arith, (final_right k r p).1 x)
  within_out (suc n) p x =
      elim (or_out (within n p) (any k r (λ q. step k r top p q && within n q)) x) [
        | inl y ↦ let (m, h, z) = within_out n p y in (m, omega arith, z)
        | inr y ↦
            let (q, z) = any_out k r (λ q. step k r top p q && within n q) y in
            let (a, b) = and_out (step k r top p q) (within n q) z in
            let (m, h, c) = within_out n q b in
            (suc m, omega arith, (step_right k r top p (run_of_tops m)).1 (q, a, c))
      ]

  within_in : (m : ℕ) (p : State k r) → Rest k r p (run_of_tops m) → T (within (pred (states k r)) p)
  within_in zero p x = within_from (pred (states k r)) p ((final_right k r p).0 x)
  within_in (suc m) p x =
      let n = pred (states k r) in
      let (q, a, y) = (step_right k r top p (run_of_tops m)).0 x in
      settled p
      (or_right (within n p) (any k r (λ q. step k r top p q && within n q))
      (any_in k r (λ q. step k r top p q && within n q) q (and_in (step k r top p q) (within n q) a (within_in m q y))))

  some_state : State k r → 0 < states k r
  some_state p =
      let most = total_most k r 1 (λ p. 1) (λ p. omega arith) in
      let more = total_more k r (λ p. 0) (λ p. 1) (λ p. omega arith) p (omega arith) in
      omega (arith, mul-one (states k r))

  -- any run that completes a match has one of fewer tops than there are states
  fewer_tops : (m : ℕ) (p : State k r) → Rest k r p (run_of_tops m) → (n : ℕ) × (n < states k r) × Rest k r p (run_of_tops n)
  fewer_tops m p x = let (n, h, y) = within_out (pred (states k r)) p (within_in m p x) in (n, omega (arith, some_state p), y)

  -- so any that is not empty has one of at most as many, from a state and after a list
  pub tops_enough_lem : (p : State k r) → ((m : ℕ) × Rest k r p (run_of_tops (suc m))) → (m : ℕ) × (m < states k r) × Rest k r p (run_of_tops (suc m))
  tops_enough_lem p (m, x) =
      let (q, a, y) = (step_right k r top p (run_of_tops m)).0 x in
      let (n, h, z) = fewer_tops m q y in
      (n, h, (step_right k r top p (run_of_tops n)).1 (q, a, z))

  pub tops_after : (v : List Letter) → ((m : ℕ) × MatchesUnder k r (v ++ run_of_tops (suc m)))
      → (m : ℕ) × (m < states k r) × MatchesUnder k r (v ++ run_of_tops (suc m))
  tops_after [] (m, x) =
      let (q, a, y) = (init_right k r top (run_of_tops m)).0 x in
      let (n, h, z) = fewer_tops m q y in
      (n, h, (init_right k r top (run_of_tops n)).1 (q, a, z))
  tops_after (l ∷ v) (m, x) =
      let (q, a, y) = (after_right k r l v (run_of_tops (suc m))).0 x in
      let (n, h, z) = tops_enough_lem q (m, y) in
      (n, h, (after_right k r l v (run_of_tops (suc n))).1 (q, a, z))
