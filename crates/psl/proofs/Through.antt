-- What the program says depends only on the conditions by name that letters and their mirrors satisfy.
use Rattle.std.proofs.Common.{◌≡◌, ℕ, suc, Bool, true, not, ◌&&◌, ◌||◌, T, List, [], ◌∷◌, ◌++◌, map, length, take, drop, refl, ap, ◌∙◌, subst, ap₂, inl, inr}
use Rattle.psl.specs.Syntax.{Condition, Sequence, condition, concat, fusion, either, both, empty, star, sequence_at, Formula, strong, weak}
use Rattle.psl.specs.Syntax.{strong_sequence, weak_sequence, negated, conjoined, next, until, abort, implies, formula_at}
use Rattle.psl.specs.Letter.{Letter, mirror}
use Rattle.psl.specs.Word.{Tail, mirror_tail, behead}
use Rattle.psl.specs.Automaton.{accepts, run_of_tops, extends}
use Rattle.psl.specs.Evaluation.{is_tops, is_end, cut, cut_tail, nowhere, tail_ticks, scan, reach, eval}
use Rattle.psl.specs.Named.{filled, filled_sequence, filled_formula, filled_clock, Like, Likes}
use Rattle.psl.specs.OptionalClock.{Clock, free, on, ticks, waits, MatchesUnder}
use Rattle.psl.proofs.Accept.{accepts_right}
use Rattle.psl.proofs.Likes.{likes_sym, like_filled, like_mirror, like_negated, likes_mirror, likes_behead, likes_length, likes_take, likes_drop}
use Rattle.psl.proofs.Likes.{likes_tops, first_like, cut_like, some_below_alike, nil_like}
use Rattle.psl.proofs.Live.{Stretches, extends_right}
use Rattle.psl.proofs.Pairwise.{Carries, pairwise_join, ends_carry, tick_carry, concat_carry, fusion_carry, repeats_carry, empty_carry}
use Rattle.psl.proofs.Tests.{same_test}

-- whatever the names stand for, the sequences stretch
abbrev pub Spans : Clock → Formula → Type 0
Spans c (strong b) = Unit {0}
Spans c (weak b) = Unit {0}
Spans c (strong_sequence r) = (f : ℕ → Condition) → Stretches (filled_clock f c) (filled_sequence f r)
Spans c (weak_sequence r) = (f : ℕ → Condition) → Stretches (filled_clock f c) (filled_sequence f r)
Spans c (negated x) = Spans c x
Spans c (conjoined x y) = Spans c x × Spans c y
Spans c (next x) = Spans c x
Spans c (until x y) = Spans c x × Spans c y
Spans c (abort x b) = Spans c x
Spans c (implies r x) = ((f : ℕ → Condition) → Stretches (filled_clock f c) (filled_sequence f r)) × Spans c x
Spans c (formula_at x d) = Spans (on d) x

module _ (f g : ℕ → Condition) where
  ticks_like : (c : Clock) (l m : Letter) → Like f g l m → ticks (filled_clock f c) l ≡ ticks (filled_clock g c) m
  ticks_like free l m h = refl
  ticks_like (on c) l m h = like_filled f g l m c h

  waits_like : (c : Clock) (l m : Letter) → Like f g l m → waits (filled_clock f c) l ≡ waits (filled_clock g c) m
  waits_like free l m h = refl
  waits_like (on c) l m h = like_negated f g l m c h

  tail_like : (c : Clock) (t : Tail) → tail_ticks (filled_clock f c) t ≡ tail_ticks (filled_clock g c) t
  tail_like free t = refl
  tail_like (on c) t = refl

  matches_like : (c : Clock) (r : Sequence)
      → Carries (Like f g) (MatchesUnder (filled_clock f c) (filled_sequence f r)) (MatchesUnder (filled_clock g c) (filled_sequence g r))
  matches_like c (condition b) = λ u v h (t, e). (
    tick_carry (Like f g) (filled_clock f c) (filled_clock g c) (λ l m x. subst T (ticks_like c l m x)) (λ l m x. subst T (waits_like c l m x)) u v h t,
    ends_carry (Like f g) (filled f b) (filled g b) (λ l m x. subst T (like_filled f g l m b x)) u v h e,
  )
  matches_like c (concat r s) = concat_carry (Like f g) _ _ _ _ (matches_like c r) (matches_like c s)
  matches_like c (fusion r s) = fusion_carry (Like f g) _ _ _ _ (matches_like c r) (matches_like c s)
  matches_like c (either r s) = λ u v h. elim [ inl x ↦ inl (matches_like c r u v h x) | inr x ↦ inr (matches_like c s u v h x) ]
  matches_like c (both r s) = λ u v h (x, y). (matches_like c r u v h x, matches_like c s u v h y)
  matches_like c empty = empty_carry (Like f g)
  matches_like c (star r) = λ u v h x. repeats_carry (Like f g) _ _ (matches_like c r) x v h
  matches_like c (sequence_at r d) = matches_like (on d) r

  scan_like : (c : Clock) (F F' G G' : List Letter → Bool) (t : Tail) → ((u v : List Letter) → Likes f g u v → F u ≡ F' v)
      → ((u v : List Letter) → Likes f g u v → G u ≡ G' v)
      → (u v : List Letter) → Likes f g u v → scan (filled_clock f c) F G t u ≡ scan (filled_clock g c) F' G' t v
  scan_like c F F' G G' t p q [] [] h = ap₂ ◌&&◌ (tail_like c t) (q [] [] tt)
  scan_like c F F' G G' t p q [] (m ∷ v) h = absurd h
  scan_like c F F' G G' t p q (l ∷ u) [] h = absurd h
  scan_like c F F' G G' t p q (l ∷ u) (m ∷ v) h =
      let here = ap₂ ◌&&◌ (ticks_like c l m h.0) (q (l ∷ u) (m ∷ v) h) in
      let wait = ap₂ (λ (a b : Bool). not a || b) (ticks_like c (mirror l) (mirror m) (like_mirror f g l m h.0)) (p (l ∷ u) (m ∷ v) h) in
      ap₂ ◌||◌ here (ap₂ ◌&&◌ wait (scan_like c F F' G G' t p q u v h.1))

accepts_like : (f g : ℕ → Condition) (c : Clock) (r : Sequence) (u v : List Letter) → Likes f g u v
    → accepts (filled_clock f c) (filled_sequence f r) u ≡ accepts (filled_clock g c) (filled_sequence g r) v
accepts_like f g c r u v h =
    same_test (accepts (filled_clock f c) (filled_sequence f r) u) (accepts (filled_clock g c) (filled_sequence g r) v)
    (λ x. (accepts_right (filled_clock g c) (filled_sequence g r) v).0 (matches_like f g c r u v h ((accepts_right (filled_clock f c) (filled_sequence f r) u).1 x)))
    (λ x. (accepts_right (filled_clock f c) (filled_sequence f r) u).0
    (matches_like g f c r v u (likes_sym f g u v h) ((accepts_right (filled_clock g c) (filled_sequence g r) v).1 x)))

extends_there : (f g : ℕ → Condition) (c : Clock) (r : Sequence) → ((f : ℕ → Condition) → Stretches (filled_clock f c) (filled_sequence f r))
    → (u v : List Letter) → Likes f g u v → T (extends (filled_clock f c) (filled_sequence f r) u) → T (extends (filled_clock g c) (filled_sequence g r) v)
extends_there f g c r long u v h x =
    let y = (extends_right (filled_clock f c) (filled_sequence f r) (long f) u).1 x in
    let n = suc y.0 in
    (extends_right (filled_clock g c) (filled_sequence g r) (long g) v).0 (
      y.0,
      (matches_like f g c r (u ++ run_of_tops n) (v ++ run_of_tops n) (pairwise_join (Like f g) u v (run_of_tops n) (run_of_tops n) h (likes_tops f g n)) y.1),
    )

extends_like : (f g : ℕ → Condition) (c : Clock) (r : Sequence) → ((f : ℕ → Condition) → Stretches (filled_clock f c) (filled_sequence f r))
    → (u v : List Letter) → Likes f g u v → extends (filled_clock f c) (filled_sequence f r) u ≡ extends (filled_clock g c) (filled_sequence g r) v
extends_like f g c r long u v h =
    same_test _ _ (extends_there f g c r long u v h) (extends_there g f c r long v u (likes_sym f g u v h))

reach_like : (f g : ℕ → Condition) (c : Clock) (r : Sequence) → ((f : ℕ → Condition) → Stretches (filled_clock f c) (filled_sequence f r))
    → (P Q : ℕ → Bool) (a b : Bool) (u v : List Letter) → Likes f g u v → ((j : ℕ) → P j ≡ Q j) → a ≡ b
    → reach (filled_clock f c) (filled_sequence f r) P a u ≡ reach (filled_clock g c) (filled_sequence g r) Q b v
reach_like f g c r long P Q a b u v h p e =
    ap₂ ◌||◌
    (some_below_alike (length u) (length v) _ _ (likes_length f g u v h)
    (λ j. ap₂ ◌&&◌ (accepts_like f g c r (take (suc j) u) (take (suc j) v) (likes_take f g (suc j) u v h)) (p j)))
    (ap₂ ◌&&◌ e (extends_like f g c r long u v h))

pub eval_like : (f g : ℕ → Condition) (c : Clock) (x : Formula) → Spans c x → (t : Tail) (u v : List Letter) → Likes f g u v
    → eval (filled_clock f c) (filled_formula f x) t u ≡ eval (filled_clock g c) (filled_formula g x) t v
eval_like f g c (strong b) z t u v h = scan_like f g c nowhere nowhere _ _ t (λ u v h. refl) (first_like f g b t) u v h
eval_like f g c (weak b) z t u v h =
    ap not (scan_like f g c nowhere nowhere _ _ (mirror_tail t) (λ u v h. refl)
    (λ u v h. ap not (first_like f g b t (map mirror u) (map mirror v) (likes_mirror f g u v h))) (map mirror u) (map mirror v) (likes_mirror f g u v h))
eval_like f g c (strong_sequence r) z t u v h = reach_like f g c r z (λ j. true) (λ j. true) (is_tops t) (is_tops t) u v h (λ j. refl) refl
eval_like f g c (weak_sequence r) z t u v h =
    ap₂ (λ (a b : Bool). (a && is_end t) || b) (nil_like f g u v h)
    (reach_like f g c r z (λ j. true) (λ j. true) (is_tops t || is_end t) (is_tops t || is_end t) u v h (λ j. refl) refl)
eval_like f g c (negated x) z t u v h = ap not (eval_like f g c x z (mirror_tail t) (map mirror u) (map mirror v) (likes_mirror f g u v h))
eval_like f g c (conjoined x y) z t u v h = ap₂ ◌&&◌ (eval_like f g c x z.0 t u v h) (eval_like f g c y z.1 t u v h)
eval_like f g c (next x) z t u v h =
    scan_like f g c nowhere nowhere _ _ t (λ u v h. refl)
    (λ u v h. scan_like f g c nowhere nowhere _ _ t (λ u v h. refl) (eval_like f g c x z t) (behead u) (behead v) (likes_behead f g u v h)) u v h
eval_like f g c (until x y) z t u v h =
    scan_like f g c _ _ _ _ t (eval_like f g c x z.0 t) (eval_like f g c y z.1 t) u v h
eval_like f g c (abort x b) z t u v h =
    let (k, e) = cut_like f g b t u v h in
    ap (λ (s : Tail). eval (filled_clock f c) (filled_formula f x) s (cut (filled f b) u)) e
    ∙ eval_like f g c x z (cut_tail (filled g b) v t) (cut (filled f b) u) (cut (filled g b) v) k
eval_like f g c (implies r x) z t u v h =
    ap not
    (reach_like f g c r z.0 _ _ _ _ (map mirror u) (map mirror v) (likes_mirror f g u v h)
    (λ j. ap not (eval_like f g c x z.1 t (drop j u) (drop j v) (likes_drop f g j u v h)))
    (ap (λ (b : Bool). is_tops (mirror_tail t) && not b) (eval_like f g c x z.1 t [] [] tt)))
eval_like f g c (formula_at x d) z t u v h = eval_like f g (on d) x z t u v h
