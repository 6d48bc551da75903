-- The Boolean program is the meaning over an optional clock, for the formulas that are fit for it.
use Rattle.std.proofs.Common.{◌≡◌, ℕ, zero, suc, ◌<◌, Bool, true, false, cond as if, not, ◌&&◌, ◌||◌, T, ◌↔◌, List, [], ◌∷◌, map, length, take, drop, sym, refl, ap, ◌∙◌, subst, ap₂, le_of_suc-le-suc, arith}
use mathlib.Core.Option.{Option}
use Rattle.psl.specs.Syntax.{Condition, Sequence, Formula, strong, weak, strong_sequence, weak_sequence, negated, conjoined, next, until, abort}
use Rattle.psl.specs.Syntax.{implies, formula_at}
use Rattle.psl.specs.Letter.{Letter, mirror, satisfies}
use Rattle.psl.specs.Word.{Tail, end, tops, bottoms, Word, with_tail, mirror_tail, mir, seen, Holds, from, front}
use Rattle.psl.specs.Automaton.{accepts, extends}
use Rattle.psl.specs.Evaluation.{is_tops, is_end, cut, cut_tail, some_below, reach, eval}
use Rattle.psl.specs.OptionalClock.{Clock, on, StartsUnder, SatisfiesUnder}
use Rattle.psl.specs.Order.{Nonempty, topped_tail}
use Rattle.psl.proofs.Accept.{accepts_right}
use Rattle.psl.proofs.Beyond.{seen_bare, from_drop, no_place_past}
use Rattle.psl.proofs.FirstPlace.{Aborts, abort_none}
use Rattle.psl.proofs.Live.{Stretches, extends_right}
use Rattle.psl.proofs.Longest.{weak_longest}
use Rattle.psl.proofs.Mirrors.{tail_twice}
use Rattle.psl.proofs.Number.{some_in, some_out}
use Rattle.psl.proofs.Reach.{Reach, Inside, Past, reach_parts, Breaks, mirrored_back, implies_unbroken}
use Rattle.psl.proofs.Scan.{until_right, strong_right, weak_right, next_right}
use Rattle.psl.proofs.Tests.{and_in, and_out, and_true, iff_and, iff_or, iff_trans, iff_not, dec_T, dec_iff}

-- aborts
data Cutting (b : Condition) (v : List Letter) (t : Tail) : Type 0 where
  nowhere_cut : ((j : ℕ) → Holds (seen (with_tail v t) j) b → ⊥) → cut b v ≡ v → cut_tail b v t ≡ t → Cutting b v t
  cut_at : (j : ℕ) → Holds (seen (with_tail v t) j) b → ((i : ℕ) → i < j → Holds (seen (with_tail v t) i) b → ⊥)
      → cut b v ≡ front (with_tail v t) j → cut_tail b v t ≡ tops → Cutting b v t

cutting : (b : Condition) (v : List Letter) (t : Tail) → Cutting b v t
cutting b [] end = nowhere_cut (λ j h. subst (λ (o : Option Letter). Holds o b) (seen_bare end j) h) refl refl
cutting b [] tops = cut_at zero tt (λ i h x. absurd (omega arith)) refl refl
cutting b [] bottoms = nowhere_cut (λ j h. subst (λ (o : Option Letter). Holds o b) (seen_bare bottoms j) h) refl refl
cutting b (l ∷ v) t = go (satisfies l b) refl (cutting b v t)
  where
    go : (x : Bool) → satisfies l b ≡ x → Cutting b v t → Cutting b (l ∷ v) t
    go true e k =
        cut_at zero (subst T (sym e) tt) (λ i h y. absurd (omega arith)) (ap (λ (y : Bool). if y [] (l ∷ cut b v)) e)
        (ap (λ (y : Bool). if y tops (cut_tail b v t)) e)
    go false e (nowhere_cut n p q) =
        nowhere_cut not_yet (ap (λ (y : Bool). if y [] (l ∷ cut b v)) e ∙ ap (λ (u : List Letter). l ∷ u) p) (ap (λ (y : Bool). if y tops (cut_tail b v t)) e ∙ q)
      where
        not_yet : (j : ℕ) → Holds (seen (with_tail (l ∷ v) t) j) b → ⊥
        not_yet zero h = subst T e h
        not_yet (suc j) h = n j h
    go false e (cut_at j h n p q) =
        cut_at (suc j) h before (ap (λ (y : Bool). if y [] (l ∷ cut b v)) e ∙ ap (λ (u : List Letter). l ∷ u) p) (ap (λ (y : Bool). if y tops (cut_tail b v t)) e ∙ q)
      where
        before : (i : ℕ) → i < suc j → Holds (seen (with_tail (l ∷ v) t) i) b → ⊥
        before zero m x = subst T e x
        before (suc i) m x = n i (le_of_suc-le-suc m) x

abort_right : (k : Clock) (f : Formula) (b : Condition) (t : Tail) (v : List Letter) → Aborts k f
    → ((u : Tail) (x : List Letter) → SatisfiesUnder k f (with_tail x u) ↔ T (eval k f u x))
    → SatisfiesUnder k (abort f b) (with_tail v t) ↔ T (eval k f (cut_tail b v t) (cut b v))
abort_right k f b t v a e = go (cutting b v t)
  where
    go : Cutting b v t → SatisfiesUnder k (abort f b) (with_tail v t) ↔ T (eval k f (cut_tail b v t) (cut b v))
    go (nowhere_cut n p q) =
        iff_trans (abort_none k f b (with_tail v t) n)
        (iff_trans (e t v) (subst (λ (z : Bool). T (eval k f t v) ↔ T z) (sym (ap₂ (eval k f) q p)) (λ x. x, λ x. x)))
    go (cut_at j h n p q) =
        iff_trans (a b (with_tail v t) j h n)
        (iff_trans (e tops (front (with_tail v t) j))
        (subst (λ (z : Bool). T (eval k f tops (front (with_tail v t) j)) ↔ T z) (sym (ap₂ (eval k f) q p)) (λ x. x, λ x. x)))

-- sequences
module _ (k : Clock) (r : Sequence) (long : Stretches k r) (S : Word → Type 0) (P : ℕ → Bool) (p : Bool) (v : List Letter) where
  abbrev Given : Tail → Type 0
  Given t = ((j : ℕ) → j < length v → S (from (with_tail v t) j) ↔ T (P j)) × (S (with_tail [] t) ↔ T p)

  inside_right : (t : Tail) → Given t → Inside k r S v t ↔ T (some_below (length v) (λ j. accepts k r (take (suc j) v) && P j))
  inside_right t g = (
    (λ (j, h, (m, s)).
        some_in (length v) (λ j. accepts k r (take (suc j) v) && P j) j h
        (and_in (accepts k r (take (suc j) v)) (P j) ((accepts_right k r (take (suc j) v)).0 m) ((g.0 j h).0 s))),
    (λ x.
        let (j, h, y) = some_out (length v) (λ j. accepts k r (take (suc j) v) && P j) x in
        let (a, b) = and_out (accepts k r (take (suc j) v)) (P j) y in
        (j, h, ((accepts_right k r (take (suc j) v)).1 a, (g.0 j h).1 b))),
  )

  past_right : (t : Tail) → Given t → Past k r S v t ↔ T ((is_tops t && p) && extends k r v)
  past_right t g = (
    (λ (x, (m, s)). and_in (is_tops t && p) (extends k r v) (and_in (is_tops t) p x (g.1.0 s)) ((extends_right k r long v).0 m)),
    (λ x.
        let (y, z) = and_out (is_tops t && p) (extends k r v) x in
        let (a, b) = and_out (is_tops t) p y in
        (a, ((extends_right k r long v).1 z, g.1.1 b))),
  )

  reach_right : (t : Tail) → Given t → Reach k r S (with_tail v t) ↔ T (reach k r P (is_tops t && p) v)
  reach_right t g =
      iff_trans (reach_parts k r S v t)
      (iff_or (some_below (length v) (λ j. accepts k r (take (suc j) v) && P j)) ((is_tops t && p) && extends k r v) (inside_right t g) (past_right t g))

-- every word
abbrev Anything : Word → Type 0
Anything w = Unit {0}

topped_is : (t : Tail) → is_tops (topped_tail t) ≡ (is_tops t || is_end t)
topped_is end = refl
topped_is tops = refl
topped_is bottoms = refl

starts_right : (k : Clock) (r : Sequence) → Stretches k r → (t : Tail) (v : List Letter) → StartsUnder k r (with_tail v t) ↔ T (reach k r (λ j. true) (is_tops t) v)
starts_right k r long t v =
    let e : Reach k r Anything (with_tail v t) ↔ T (reach k r (λ j. true) (is_tops t) v) =
    subst (λ (b : Bool). Reach k r Anything (with_tail v t) ↔ T (reach k r (λ j. true) b v)) (and_true (is_tops t))
    (reach_right k r long Anything (λ j. true) true v t ((λ j h. (λ x. tt, λ x. tt)), (λ x. tt, λ x. tt))) in
    (λ x. e.0 (x.0, x.1, x.2, tt), λ x. let y = e.1 x in (y.0, y.1, y.2))

weakly : (k : Clock) (r : Sequence) → Stretches k r → (t : Tail) (v : List Letter) → Nonempty (with_tail v t)
    → SatisfiesUnder k (weak_sequence r) (with_tail v t) ↔ T (reach k r (λ j. true) (is_tops t || is_end t) v)
weakly k r long t v full =
    iff_trans (weak_longest k r (with_tail v t) full)
    (subst (λ (b : Bool). StartsUnder k r (with_tail v (topped_tail t)) ↔ T (reach k r (λ j. true) b v)) (topped_is t) (starts_right k r long (topped_tail t) v))

weak_sequence_right : (k : Clock) (r : Sequence) → Stretches k r → (t : Tail) (v : List Letter)
    → SatisfiesUnder k (weak_sequence r) (with_tail v t) ↔ T (eval k (weak_sequence r) t v)
weak_sequence_right k r long end [] = (λ x. tt, λ x j p. absurd (no_place_past [] j (omega arith) p))
weak_sequence_right k r long tops [] = weakly k r long tops [] tt
weak_sequence_right k r long bottoms [] = weakly k r long bottoms [] tt
weak_sequence_right k r long end (l ∷ v) = weakly k r long end (l ∷ v) tt
weak_sequence_right k r long tops (l ∷ v) = weakly k r long tops (l ∷ v) tt
weak_sequence_right k r long bottoms (l ∷ v) = weakly k r long bottoms (l ∷ v) tt

module _ (k : Clock) (r : Sequence) (long : Stretches k r) (f : Formula) (t : Tail) (v : List Letter)
    (e : (x : List Letter) → SatisfiesUnder k f (with_tail x t) ↔ T (eval k f t x)) where
  from_right : (j : ℕ) → SatisfiesUnder k f (from (with_tail v t) j) ↔ T (eval k f t (drop j v))
  from_right j = subst (λ (x : Word). SatisfiesUnder k f x ↔ T (eval k f t (drop j v))) (sym (from_drop v t j)) (e (drop j v))

  breaks_right : (j : ℕ) → Breaks k r f (with_tail v t) (from (mir (with_tail v t)) j) ↔ T (not (eval k f t (drop j v)))
  breaks_right j =
      iff_not (eval k f t (drop j v))
      (subst (λ (x : Word). SatisfiesUnder k f x ↔ T (eval k f t (drop j v))) (sym (mirrored_back k r f (with_tail v t) j)) (from_right j))

  bare_right : Breaks k r f (with_tail v t) (with_tail [] (mirror_tail t)) ↔ T (not (eval k f t []))
  bare_right = iff_not (eval k f t []) (subst (λ (s : Tail). SatisfiesUnder k f (with_tail [] s) ↔ T (eval k f t [])) (sym (tail_twice t)) (e []))

  implies_right : SatisfiesUnder k (implies r f) (with_tail v t) ↔ T (eval k (implies r f) t v)
  implies_right =
      iff_trans (implies_unbroken k r f (with_tail v t) (λ j. dec_iff (from_right j) (dec_T (eval k f t (drop j v)))))
      (iff_not (reach k r (λ j. not (eval k f t (drop j v))) (is_tops (mirror_tail t) && not (eval k f t [])) (map mirror v))
      (reach_right k r long (Breaks k r f (with_tail v t)) (λ j. not (eval k f t (drop j v))) (not (eval k f t [])) (map mirror v) (mirror_tail t)
      ((λ j h. breaks_right j), bare_right)))

-- what the program needs of a formula: its sequences stretch, and its aborts are decided by their first places
abbrev pub Fit : Clock → Formula → Type 0
Fit k (strong b) = Unit {0}
Fit k (weak b) = Unit {0}
Fit k (strong_sequence r) = Stretches k r
Fit k (weak_sequence r) = Stretches k r
Fit k (negated f) = Fit k f
Fit k (conjoined f g) = Fit k f × Fit k g
Fit k (next f) = Fit k f
Fit k (until f g) = Fit k f × Fit k g
Fit k (abort f b) = Fit k f × Aborts k f
Fit k (implies r f) = Stretches k r × Fit k f
Fit k (formula_at f d) = Fit (on d) f

pub eval_right : (k : Clock) (f : Formula) → Fit k f → (t : Tail) (v : List Letter) → SatisfiesUnder k f (with_tail v t) ↔ T (eval k f t v)
eval_right k (strong b) fit t v = strong_right k b t v
eval_right k (weak b) fit t v = weak_right k b t v
eval_right k (strong_sequence r) fit t v = starts_right k r fit t v
eval_right k (weak_sequence r) fit t v = weak_sequence_right k r fit t v
eval_right k (negated f) fit t v = iff_not (eval k f (mirror_tail t) (map mirror v)) (eval_right k f fit (mirror_tail t) (map mirror v))
eval_right k (conjoined f g) fit t v = iff_and (eval k f t v) (eval k g t v) (eval_right k f fit.0 t v) (eval_right k g fit.1 t v)
eval_right k (next f) fit t v = next_right k (SatisfiesUnder k f) (eval k f t) t (eval_right k f fit t) v
eval_right k (until f g) fit t v =
    until_right k (SatisfiesUnder k f) (SatisfiesUnder k g) (eval k f t) (eval k g t) t (eval_right k f fit.0 t) (eval_right k g fit.1 t) v
eval_right k (abort f b) fit t v = abort_right k f b t v fit.1 (eval_right k f fit.0)
eval_right k (implies r f) fit t v = implies_right k r fit.0 f t v (eval_right k f fit.1 t)
eval_right k (formula_at f d) fit t v = eval_right (on d) f fit t v
