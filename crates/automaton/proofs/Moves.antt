-- A letter moves the states of a sequence part by part.
use Rattle.std.proofs.Common.{◌≡◌, Bool, false, ◌&&◌, ◌||◌, T, ◌⊎◌, [], ◌∷◌, sym, ap, ◌∙◌, subst, ap₂, inl, inr, arith}
use Rattle.std.proofs.lemmas.Bool.Decides.{nat_tests}
use Rattle.psl.specs.Syntax.{Sequence, concat, fusion, either, both, star}
use Rattle.psl.specs.Letter.{Letter}
use Rattle.psl.specs.Automaton.{State, states, null, final, single, last, init, step, any}
use Rattle.psl.specs.OptionalClock.{Clock}
use Rattle.psl.proofs.Accept.{any_in, any_out, single_right, last_right, accepts_right, completes_right}
use Rattle.psl.proofs.Number.{number_below}
use Rattle.psl.proofs.Tests.{and_in, and_out, or_left, or_right, or_out, same_test, iff_trans, iff_sym}
use Rattle.automaton.specs.Moves.{moved, ended}

-- some state has one of two properties that are equal state by state
pub any_same : (k : Clock) (r : Sequence) (P Q : State k r → Bool) → ((p : State k r) → P p ≡ Q p) → any k r P ≡ any k r Q
any_same k r P Q e =
    same_test (any k r P) (any k r Q)
    (λ t. let (p, x) = any_out k r P t in any_in k r Q p (subst T (e p) x))
    (λ t. let (p, x) = any_out k r Q t in any_in k r P p (subst T (sym (e p)) x))

module _ (k : Clock) (r : Sequence) (X F : State k r → Bool) where
  -- some state has two properties
  pub any_two : (p : State k r) → T (X p) → T (F p) → T (any k r (λ p. X p && F p))
  any_two p x y = any_in k r (λ p. X p && F p) p (and_in (X p) (F p) x y)

  pub two_of : T (any k r (λ p. X p && F p)) → (p : State k r) × T (X p) × T (F p)
  two_of t =
      let (p, z) = any_out k r (λ p. X p && F p) t in
      let (x, y) = and_out (X p) (F p) z in
      (p, x, y)

pub any_none : (k : Clock) (r : Sequence) (X : State k r → Bool) → any k r (λ p. X p && false) ≡ false
any_none k r X = same_test (any k r (λ p. X p && false)) false (λ t. (two_of k r X (λ p. false) t).2) (λ t. absurd t)

-- no state, and no end
pub ended_none : (k : Clock) (r : Sequence) (S : State k r → Bool) → states k r ≡ 0 → ended k r S ≡ false
ended_none k r S e = same_test (ended k r S) false (λ t. let (p, y) = any_out k r _ t in let h = number_below k r p in absurd (omega arith)) (λ t. absurd t)

-- what does not depend on the state
pub any_factor : (k : Clock) (r : Sequence) (X F : State k r → Bool) (i : Bool) → any k r (λ p. X p && (F p && i)) ≡ (any k r (λ p. X p && F p) && i)
any_factor k r X F i =
    same_test (any k r (λ p. X p && (F p && i))) (any k r (λ p. X p && F p) && i)
    (λ t. let (p, x, y) = two_of k r X (λ p. F p && i) t in
    let (f, j) = and_out (F p) i y in
    and_in (any k r (λ p. X p && F p)) i (any_two k r X F p x f) j)
    (λ t. let (a, j) = and_out (any k r (λ p. X p && F p)) i t in
    let (p, x, f) = two_of k r X F a in
    any_two k r X (λ p. F p && i) p x (and_in (F p) i f j))

-- one of two properties
any_split : (k : Clock) (r : Sequence) (X F G : State k r → Bool)
    → any k r (λ p. X p && (F p || G p)) ≡ (any k r (λ p. X p && F p) || any k r (λ p. X p && G p))
any_split k r X F G =
    same_test (any k r (λ p. X p && (F p || G p))) (any k r (λ p. X p && F p) || any k r (λ p. X p && G p))
    (λ t. let (p, x, y) = two_of k r X (λ p. F p || G p) t in
    elim (or_out (F p) (G p) y) [
      | inl f ↦ or_left (any k r (λ p. X p && F p)) (any k r (λ p. X p && G p)) (any_two k r X F p x f)
      | inr g ↦ or_right (any k r (λ p. X p && F p)) (any k r (λ p. X p && G p)) (any_two k r X G p x g)
    ])
    (λ t. elim (or_out (any k r (λ p. X p && F p)) (any k r (λ p. X p && G p)) t) [
      | inl a ↦ let (p, x, f) = two_of k r X F a in any_two k r X (λ p. F p || G p) p x (or_left (F p) (G p) f)
      | inr a ↦ let (p, x, g) = two_of k r X G a in any_two k r X (λ p. F p || G p) p x (or_right (F p) (G p) g)
    ])

-- moves from states that the other states do not lead to
module _ (k : Clock) (r s : Sequence) where
  left_only : (a : Bool) (P : State k r → Bool) (X : State k s → Bool) → (a || (any k r P || any k s (λ p. X p && false))) ≡ (a || any k r P)
  left_only a P X = ap (λ (b : Bool). a || (any k r P || b)) (any_none k s X) ∙ same a (any k r P)
    where
      same : (a b : Bool) → (a || (b || false)) ≡ (a || b)
      same a b = grind (arith, nat_tests)

  right_only : (a : Bool) (X : State k r → Bool) (P : State k s → Bool) → (a || (any k r (λ p. X p && false) || any k s P)) ≡ (a || any k s P)
  right_only a X P = ap (λ (b : Bool). a || (b || any k s P)) (any_none k r X)

  -- entering the second part from the start or by an end of the first
  entering : (e n i : Bool) (X F : State k r → Bool) (w : Bool) → ((e && (n && i)) || (any k r (λ p. X p && (F p && i)) || w))
      ≡ ((((e && n) || any k r (λ p. X p && F p)) && i) || w)
  entering e n i X F w =
      ap (λ (b : Bool). (e && (n && i)) || (b || w)) (any_factor k r X F i) ∙ same e n i (any k r (λ p. X p && F p)) w
    where
      same : (e n i f w : Bool) → ((e && (n && i)) || ((f && i) || w)) ≡ ((((e && n) || f) && i) || w)
      same e n i f w = grind (arith, nat_tests)

  module _ (l : Letter) (e : Bool) (S : State k r ⊎ State k s → Bool) where
    -- the first part does not notice the second
    pub sum_left : (q : State k r) → moved k (concat r s) l e S (inl q) ≡ moved k r l e (λ p. S (inl p)) q
    sum_left q = left_only (e && init k r l q) (λ p. S (inl p) && step k r l p q) (λ p. S (inr p))

    pub either_right : (q : State k s) → moved k (either r s) l e S (inr q) ≡ moved k s l e (λ p. S (inr p)) q
    either_right q = right_only (e && init k s l q) (λ p. S (inl p)) (λ p. S (inr p) && step k s l p q)

    pub concat_right : (q : State k s) → moved k (concat r s) l e S (inr q)
        ≡ moved k s l ((e && null r) || ended k r (λ p. S (inl p))) (λ p. S (inr p)) q
    concat_right q = entering e (null r) (init k s l q) (λ p. S (inl p)) (final k r) (any k s (λ p. S (inr p) && step k s l p q))

    fusion_by_last : (q : State k s) → moved k (fusion r s) l e S (inr q)
        ≡ moved k s l ((e && single k r l) || any k r (λ p. S (inl p) && last k r l p)) (λ p. S (inr p)) q
    fusion_by_last q = entering e (single k r l) (init k s l q) (λ p. S (inl p)) (last k r l) (any k s (λ p. S (inr p) && step k s l p q))

-- a match of one letter, by the state after it
single_ends : (k : Clock) (r : Sequence) (l : Letter) → single k r l ≡ ended k r (init k r l)
single_ends k r l =
    let same = iff_trans (iff_sym (single_right k r l)) (accepts_right k r (l ∷ [])) in
    same_test (single k r l) (ended k r (init k r l)) same.0 same.1

-- without states there is no such match
pub single_none : (k : Clock) (r : Sequence) (l : Letter) → states k r ≡ 0 → single k r l ≡ false
single_none k r l e = single_ends k r l ∙ ended_none k r (init k r l) e

-- a match that a letter completes, by the state after it
last_ends : (k : Clock) (r : Sequence) (l : Letter) (p : State k r) → last k r l p ≡ ended k r (step k r l p)
last_ends k r l p =
    let same = iff_trans (iff_sym (last_right k r l p)) (completes_right k r p (l ∷ [])) in
    same_test (last k r l p) (ended k r (step k r l p))
    (λ t. let (q, x, y) = same.0 t in any_two k r (step k r l p) (final k r) q x y)
    (λ t. same.1 (two_of k r (step k r l p) (final k r) t))

-- what has ended after the letter
ended_after : (k : Clock) (r : Sequence) (l : Letter) (e : Bool) (S : State k r → Bool)
    → ended k r (moved k r l e S) ≡ ((e && single k r l) || any k r (λ p. S p && last k r l p))
ended_after k r l e S = same_test (ended k r (moved k r l e S)) ((e && single k r l) || any k r (λ p. S p && last k r l p)) there back
  where
    stepped : State k r → Bool
    stepped q = any k r (λ p. S p && step k r l p q)

    there : T (ended k r (moved k r l e S)) → T ((e && single k r l) || any k r (λ p. S p && last k r l p))
    there t =
        let (q, m, f) = two_of k r (moved k r l e S) (final k r) t in
        elim (or_out (e && init k r l q) (any k r (λ p. S p && step k r l p q)) m) [
          | inl a ↦ let (b, i) = and_out e (init k r l q) a in
              or_left (e && single k r l) (any k r (λ p. S p && last k r l p))
              (and_in e (single k r l) b (subst T (sym (single_ends k r l)) (any_two k r (init k r l) (final k r) q i f)))
          | inr a ↦ let (p, b, i) = two_of k r S (λ p. step k r l p q) a in
              or_right (e && single k r l) (any k r (λ p. S p && last k r l p))
              (any_two k r S (last k r l) p b (subst T (sym (last_ends k r l p)) (any_two k r (step k r l p) (final k r) q i f)))
        ]

    back : T ((e && single k r l) || any k r (λ p. S p && last k r l p)) → T (ended k r (moved k r l e S))
    back t =
        elim (or_out (e && single k r l) (any k r (λ p. S p && last k r l p)) t) [
          | inl a ↦ let (b, i) = and_out e (single k r l) a in
              let (q, y, f) = two_of k r (init k r l) (final k r) (subst T (single_ends k r l) i) in
              any_two k r (moved k r l e S) (final k r) q
              (or_left (e && init k r l q) (any k r (λ p. S p && step k r l p q)) (and_in e (init k r l q) b y)) f
          | inr a ↦ let (p, b, i) = two_of k r S (last k r l) a in
              let (q, y, f) = two_of k r (step k r l p) (final k r) (subst T (last_ends k r l p) i) in
              any_two k r (moved k r l e S) (final k r) q
              (or_right (e && init k r l q) (any k r (λ p. S p && step k r l p q)) (any_two k r S (λ p. step k r l p q) p b y)) f
        ]

-- r:s goes on where r has ended with this letter
pub fusion_right : (k : Clock) (r s : Sequence) (l : Letter) (e : Bool) (S : State k r ⊎ State k s → Bool) (q : State k s)
    → moved k (fusion r s) l e S (inr q) ≡ moved k s l (ended k r (moved k r l e (λ p. S (inl p)))) (λ p. S (inr p)) q
fusion_right k r s l e S q =
    fusion_by_last k r s l e S q
    ∙ ap (λ (b : Bool). moved k s l b (λ p. S (inr p)) q) (sym (ended_after k r l e (λ p. S (inl p))))

-- r[*] starts again where r has ended
pub star_again : (k : Clock) (r : Sequence) (l : Letter) (e : Bool) (S : State k r → Bool) (q : State k r)
    → moved k (star r) l e S q ≡ moved k r l (e || ended k r S) S q
star_again k r l e S q =
    ap (λ (b : Bool). (e && init k r l q) || b) (any_split k r S (λ p. step k r l p q) (λ p. final k r p && init k r l q))
    ∙ ap (λ (b : Bool). (e && init k r l q) || (any k r (λ p. S p && step k r l p q) || b)) (any_factor k r S (final k r) (init k r l q))
    ∙ same e (init k r l q) (any k r (λ p. S p && step k r l p q)) (ended k r S)
  where
    same : (e i s f : Bool) → ((e && i) || (s || (f && i))) ≡ (((e || f) && i) || s)
    same e i s f = grind (arith, nat_tests)

-- r&&s moves its first parts, and then its second
module _ (k : Clock) (r s : Sequence) (l : Letter) (S : State k r × State k s → Bool) (q : State k r) (q' : State k s) where
  abbrev steps : State k r → State k s → Bool
  steps p p' = step k r l p q && step k s l p' q'

  abbrev first_moved : State k s → Bool
  first_moved p' = moved k r l false (λ p. S (p, p')) q

  both_there : T (any k r (λ p. any k s (λ p'. S (p, p') && steps p p'))) → T (any k s (λ p'. first_moved p' && step k s l p' q'))
  both_there t =
      let (p, t') = any_out k r (λ p. any k s (λ p'. S (p, p') && steps p p')) t in
      let (p', a, b) = two_of k s (λ p'. S (p, p')) (steps p) t' in
      let (y, z) = and_out (step k r l p q) (step k s l p' q') b in
      any_two k s first_moved (λ p'. step k s l p' q') p' (any_two k r (λ o. S (o, p')) (λ o. step k r l o q) p a y) z

  both_back : T (any k s (λ p'. first_moved p' && step k s l p' q')) → T (any k r (λ p. any k s (λ p'. S (p, p') && steps p p')))
  both_back t =
      let (p', a, z) = two_of k s first_moved (λ p'. step k s l p' q') t in
      let (p, b, w) = two_of k r (λ p. S (p, p')) (λ p. step k r l p q) a in
      any_in k r (λ p. any k s (λ p'. S (p, p') && steps p p')) p
      (any_two k s (λ p'. S (p, p')) (steps p) p' b (and_in (step k r l p q) (step k s l p' q') w z))

  pub both_parts : (e : Bool) → moved k (both r s) l e S (q, q') ≡ moved k s l (e && init k r l q) first_moved q'
  both_parts e =
      ap₂ ◌||◌ (same e (init k r l q) (init k s l q'))
      (same_test (any k r (λ p. any k s (λ p'. S (p, p') && steps p p'))) (any k s (λ p'. first_moved p' && step k s l p' q')) both_there both_back)
    where
      same : (e i j : Bool) → (e && (i && j)) ≡ ((e && i) && j)
      same e i j = grind (arith, nat_tests)
