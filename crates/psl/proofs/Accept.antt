-- The automaton accepts exactly the lists that the sequence matches.
use Rattle.std.proofs.Common.{Bool, ◌&&◌, T, ◌⊎◌, ◌↔◌, List, [], ◌∷◌, ◌++◌, sym, refl, subst, inl, inr, append-nil}
use Rattle.psl.specs.Syntax.{Sequence, condition, concat, fusion, either, both, empty, star, sequence_at}
use Rattle.psl.specs.Letter.{Letter}
use Rattle.psl.specs.Clocked.{Repeats, done}
use Rattle.psl.specs.Automaton.{State, null, final, single, last, init, step, any, run, accepts, Completes}
use Rattle.psl.specs.OptionalClock.{Clock, on, MatchesUnder}
use Rattle.psl.proofs.Derive.{Derives, sum_rest, left_derives, right_derives, either_derives, both_derives, concat_derives, fusion_derives}
use Rattle.psl.proofs.Derive.{star_derives, again_derives}
use Rattle.psl.proofs.Languages.{Lang, Concat, Fusion, nil_cons, concat_nil_out, concat_nil_in, fusion_nil, concat_nil, concat_one, fusion_one}
use Rattle.psl.proofs.Languages.{star_one}
use Rattle.psl.proofs.Leaf.{leaf_rest, leaf_derives, leaf_null_right, leaf_final_right, leaf_single_right, leaf_last_right, leaf_moves}
use Rattle.psl.proofs.Leaf.{leaf_any_in, leaf_any_out}
use Rattle.psl.proofs.Tests.{and_in, and_out, or_left, or_right, or_out, iff_and, iff_or, iff_trans}

-- the lists that complete a match from a state
abbrev pub Rest : (k : Clock) → (r : Sequence) → State k r → Lang
Rest k (condition b) p = leaf_rest k b p
Rest k (concat r s) p = sum_rest (λ p. Concat (Rest k r p) (MatchesUnder k s)) (Rest k s) p
Rest k (fusion r s) p = sum_rest (λ p. Fusion (Rest k r p) (MatchesUnder k s)) (Rest k s) p
Rest k (either r s) p = sum_rest (Rest k r) (Rest k s) p
Rest k (both r s) p = λ v. Rest k r p.0 v × Rest k s p.1 v
Rest k empty p = λ v. ⊥
Rest k (star r) p = Concat (Rest k r p) (Repeats (MatchesUnder k r))
Rest k (sequence_at r d) p = Rest (on d) r p

-- the empty word
pub null_right : (k : Clock) (r : Sequence) → MatchesUnder k r [] ↔ T (null r)
null_right k (condition b) = (leaf_null_right k b, λ t. absurd t)
null_right k (concat r s) = iff_trans (concat_nil (MatchesUnder k r) (MatchesUnder k s)) (iff_and (null r) (null s) (null_right k r) (null_right k s))
null_right k (fusion r s) = (fusion_nil (MatchesUnder k r) (MatchesUnder k s), λ t. absurd t)
null_right k (either r s) = iff_or (null r) (null s) (null_right k r) (null_right k s)
null_right k (both r s) = iff_and (null r) (null s) (null_right k r) (null_right k s)
null_right k empty = (λ t. tt, λ t. refl)
null_right k (star r) = (λ t. tt, λ t. done)
null_right k (sequence_at r d) = null_right (on d) r

pub final_right : (k : Clock) (r : Sequence) (p : State k r) → Rest k r p [] ↔ T (final k r p)
final_right k (condition b) p = leaf_final_right k b p
final_right k (concat r s) (inl p) = iff_trans (concat_nil (Rest k r p) (MatchesUnder k s)) (iff_and (final k r p) (null s) (final_right k r p) (null_right k s))
final_right k (concat r s) (inr q) = final_right k s q
final_right k (fusion r s) (inl p) = (fusion_nil (Rest k r p) (MatchesUnder k s), λ t. absurd t)
final_right k (fusion r s) (inr q) = final_right k s q
final_right k (either r s) (inl p) = final_right k r p
final_right k (either r s) (inr q) = final_right k s q
final_right k (both r s) p = iff_and (final k r p.0) (final k s p.1) (final_right k r p.0) (final_right k s p.1)
final_right k empty p = absurd p
final_right k (star r) p = (
  λ t. (final_right k r p).0 (concat_nil_out (Rest k r p) (Repeats (MatchesUnder k r)) t).0,
  λ t. concat_nil_in (Rest k r p) (Repeats (MatchesUnder k r))
      ((final_right k r p).1 t) done,
)
final_right k (sequence_at r d) p = final_right (on d) r p

-- one letter
pub single_right : (k : Clock) (r : Sequence) (l : Letter) → MatchesUnder k r (l ∷ []) ↔ T (single k r l)
single_right k (condition b) l = leaf_single_right k b l
single_right k (concat r s) l =
    iff_trans (concat_one (MatchesUnder k r) (MatchesUnder k s) l)
    (iff_or (null r && single k s l) (single k r l && null s)
    (iff_and (null r) (single k s l) (null_right k r) (single_right k s l)) (iff_and (single k r l) (null s) (single_right k r l) (null_right k s)))
single_right k (fusion r s) l =
    iff_trans (fusion_one (MatchesUnder k r) (MatchesUnder k s) l) (iff_and (single k r l) (single k s l) (single_right k r l) (single_right k s l))
single_right k (either r s) l = iff_or (single k r l) (single k s l) (single_right k r l) (single_right k s l)
single_right k (both r s) l = iff_and (single k r l) (single k s l) (single_right k r l) (single_right k s l)
single_right k empty l = (λ e. nil_cons (sym e), λ t. absurd t)
single_right k (star r) l = iff_trans (star_one (MatchesUnder k r) l) (single_right k r l)
single_right k (sequence_at r d) l = single_right (on d) r l

pub last_right : (k : Clock) (r : Sequence) (l : Letter) (p : State k r) → Rest k r p (l ∷ []) ↔ T (last k r l p)
last_right k (condition b) l p = leaf_last_right k b l p
last_right k (concat r s) l (inl p) =
    iff_trans (concat_one (Rest k r p) (MatchesUnder k s) l)
    (iff_or (final k r p && single k s l) (last k r l p && null s)
    (iff_and (final k r p) (single k s l) (final_right k r p) (single_right k s l)) (iff_and (last k r l p) (null s) (last_right k r l p) (null_right k s)))
last_right k (concat r s) l (inr q) = last_right k s l q
last_right k (fusion r s) l (inl p) =
    iff_trans (fusion_one (Rest k r p) (MatchesUnder k s) l) (iff_and (last k r l p) (single k s l) (last_right k r l p) (single_right k s l))
last_right k (fusion r s) l (inr q) = last_right k s l q
last_right k (either r s) l (inl p) = last_right k r l p
last_right k (either r s) l (inr q) = last_right k s l q
last_right k (both r s) l p = iff_and (last k r l p.0) (last k s l p.1) (last_right k r l p.0) (last_right k s l p.1)
last_right k empty l p = absurd p
last_right k (star r) l p =
    iff_trans (concat_one (Rest k r p) (Repeats (MatchesUnder k r)) l)
    (iff_or (final k r p && single k r l) (last k r l p)
    (iff_and (final k r p) (single k r l) (final_right k r p) (iff_trans (star_one (MatchesUnder k r) l) (single_right k r l)))
    (λ t. (last_right k r l p).0 t.0, λ t. ((last_right k r l p).1 t, done)))
last_right k (sequence_at r d) l p = last_right (on d) r l p

-- the automaton's steps
pub init_right : (k : Clock) (r : Sequence) (l : Letter) → Derives (MatchesUnder k r) l (init k r l) (Rest k r)
init_right k (condition b) l = leaf_derives k b l
init_right k (concat r s) l =
    concat_derives l (MatchesUnder k r) (MatchesUnder k s) _ _ _ _ (init_right k r l) (init_right k s l) (null r) (null_right k r)
init_right k (fusion r s) l =
    fusion_derives l (MatchesUnder k r) (MatchesUnder k s) _ _ _ _ (init_right k r l) (init_right k s l) (single k r l) (single_right k r l)
init_right k (either r s) l = either_derives l (MatchesUnder k r) (MatchesUnder k s) _ _ _ _ (init_right k r l) (init_right k s l)
init_right k (both r s) l = both_derives l (MatchesUnder k r) (MatchesUnder k s) _ _ _ _ (init_right k r l) (init_right k s l)
init_right k empty l = λ v. (λ e. nil_cons (sym e), λ t. absurd t.0)
init_right k (star r) l = star_derives l (init k r l) (Rest k r) (MatchesUnder k r) (init_right k r l)
init_right k (sequence_at r d) l = init_right (on d) r l

pub step_right : (k : Clock) (r : Sequence) (l : Letter) (p : State k r) → Derives (Rest k r p) l (step k r l p) (Rest k r)
step_right k (condition b) l p = leaf_moves k b l p
step_right k (concat r s) l (inl p) =
    concat_derives l (Rest k r p) (MatchesUnder k s) _ _ _ _ (step_right k r l p) (init_right k s l) (final k r p) (final_right k r p)
step_right k (concat r s) l (inr q) = right_derives l (Rest k s q) _ (λ p. Concat (Rest k r p) (MatchesUnder k s)) (Rest k s) (step_right k s l q)
step_right k (fusion r s) l (inl p) =
    fusion_derives l (Rest k r p) (MatchesUnder k s) _ _ _ _ (step_right k r l p) (init_right k s l) (last k r l p) (last_right k r l p)
step_right k (fusion r s) l (inr q) = right_derives l (Rest k s q) _ (λ p. Fusion (Rest k r p) (MatchesUnder k s)) (Rest k s) (step_right k s l q)
step_right k (either r s) l (inl p) = left_derives l (Rest k r p) _ (Rest k r) (Rest k s) (step_right k r l p)
step_right k (either r s) l (inr q) = right_derives l (Rest k s q) _ (Rest k r) (Rest k s) (step_right k s l q)
step_right k (both r s) l p =
    both_derives l (Rest k r p.0) (Rest k s p.1) _ _ _ _ (step_right k r l p.0) (step_right k s l p.1)
step_right k empty l p = absurd p
step_right k (star r) l p =
    again_derives l _ _ (Rest k r p) (Repeats (MatchesUnder k r)) _ (final k r p) (step_right k r l p)
    (star_derives l (init k r l) (Rest k r) (MatchesUnder k r) (init_right k r l)) (final_right k r p)
step_right k (sequence_at r d) l p = step_right (on d) r l p

-- some state
pub any_in : (k : Clock) (r : Sequence) (P : State k r → Bool) (p : State k r) → T (P p) → T (any k r P)
any_in k (condition b) P p x = leaf_any_in k P p x
any_in k (concat r s) P (inl p) x = or_left (any k r (λ p. P (inl p))) (any k s (λ q. P (inr q))) (any_in k r (λ p. P (inl p)) p x)
any_in k (concat r s) P (inr q) x = or_right (any k r (λ p. P (inl p))) (any k s (λ q. P (inr q))) (any_in k s (λ q. P (inr q)) q x)
any_in k (fusion r s) P (inl p) x = or_left (any k r (λ p. P (inl p))) (any k s (λ q. P (inr q))) (any_in k r (λ p. P (inl p)) p x)
any_in k (fusion r s) P (inr q) x = or_right (any k r (λ p. P (inl p))) (any k s (λ q. P (inr q))) (any_in k s (λ q. P (inr q)) q x)
any_in k (either r s) P (inl p) x = or_left (any k r (λ p. P (inl p))) (any k s (λ q. P (inr q))) (any_in k r (λ p. P (inl p)) p x)
any_in k (either r s) P (inr q) x = or_right (any k r (λ p. P (inl p))) (any k s (λ q. P (inr q))) (any_in k s (λ q. P (inr q)) q x)
any_in k (both r s) P p x = any_in k r (λ p. any k s (λ q. P (p, q))) p.0 (any_in k s (λ q. P (p.0, q)) p.1 x)
any_in k empty P p x = absurd p
any_in k (star r) P p x = any_in k r P p x
any_in k (sequence_at r d) P p x = any_in (on d) r P p x

sum_out : (k : Clock) (r s : Sequence) (P : State k r ⊎ State k s → Bool) → (T (any k r (λ p. P (inl p))) → (p : State k r) × T (P (inl p)))
    → (T (any k s (λ q. P (inr q))) → (q : State k s) × T (P (inr q)))
    → T (any k r (λ p. P (inl p))) ⊎ T (any k s (λ q. P (inr q))) → (p : State k r ⊎ State k s) × T (P p)
sum_out k r s P f g (inl x) = (inl (f x).0, (f x).1)
sum_out k r s P f g (inr x) = (inr (g x).0, (g x).1)

pub any_out : (k : Clock) (r : Sequence) (P : State k r → Bool) → T (any k r P) → (p : State k r) × T (P p)
any_out k (condition b) P x = leaf_any_out k P x
any_out k (concat r s) P x =
    sum_out k r s P (any_out k r (λ p. P (inl p))) (any_out k s (λ q. P (inr q))) (or_out (any k r (λ p. P (inl p))) (any k s (λ q. P (inr q))) x)
any_out k (fusion r s) P x =
    sum_out k r s P (any_out k r (λ p. P (inl p))) (any_out k s (λ q. P (inr q))) (or_out (any k r (λ p. P (inl p))) (any k s (λ q. P (inr q))) x)
any_out k (either r s) P x =
    sum_out k r s P (any_out k r (λ p. P (inl p))) (any_out k s (λ q. P (inr q))) (or_out (any k r (λ p. P (inl p))) (any k s (λ q. P (inr q))) x)
any_out k (both r s) P x =
    let y = any_out k r (λ p. any k s (λ q. P (p, q))) x in
    let z = any_out k s (λ q. P (y.0, q)) y.1 in
    ((y.0, z.0), z.1)
any_out k empty P x = absurd x
any_out k (star r) P x = any_out k r P x
any_out k (sequence_at r d) P x = any_out (on d) r P x

-- the states after more letters
run_there : (k : Clock) (r : Sequence) (S : State k r → Bool) (v w : List Letter) (p : State k r) → T (S p) → Rest k r p (v ++ w)
    → (q : State k r) × T (run k r S v q) × Rest k r q w
run_there k r S [] w p x y = (p, x, y)
run_there k r S (l ∷ v) w p x y =
    let z = (step_right k r l p (v ++ w)).0 y in
    run_there k r (λ q. any k r (λ p. S p && step k r l p q)) v w z.0
    (any_in k r (λ p'. S p' && step k r l p' z.0) p (and_in (S p) (step k r l p z.0) x z.1)) z.2

run_back : (k : Clock) (r : Sequence) (S : State k r → Bool) (v w : List Letter) (q : State k r) → T (run k r S v q) → Rest k r q w
    → (p : State k r) × T (S p) × Rest k r p (v ++ w)
run_back k r S [] w q x y = (q, x, y)
run_back k r S (l ∷ v) w q x y =
    let z = run_back k r (λ q. any k r (λ p. S p && step k r l p q)) v w q x y in
    let a = any_out k r (λ p. S p && step k r l p z.0) z.1 in
    let o = and_out (S a.0) (step k r l a.0 z.0) a.1 in
    (a.0, o.0, (step_right k r l a.0 (v ++ w)).1 (z.0, o.1, z.2))

-- after the first letter, the states and what completes a match from them
pub after_right : (k : Clock) (r : Sequence) (l : Letter) (v w : List Letter)
    → MatchesUnder k r (l ∷ (v ++ w)) ↔ ((q : State k r) × T (run k r (init k r l) v q) × Rest k r q w)
after_right k r l v w = (
  λ t. let z = (init_right k r l (v ++ w)).0 t in run_there k r (init k r l) v w z.0 z.1 z.2,
  λ t. (init_right k r l (v ++ w)).1 (run_back k r (init k r l) v w t.0 t.1 t.2),
)

pub accepts_right : (k : Clock) (r : Sequence) (v : List Letter) → MatchesUnder k r v ↔ T (accepts k r v)
accepts_right k r [] = null_right k r
accepts_right k r (l ∷ v) = (there, back)
  where
    there : MatchesUnder k r (l ∷ v) → T (accepts k r (l ∷ v))
    there t =
        let z = (after_right k r l v []).0 (subst (λ (w : List Letter). MatchesUnder k r (l ∷ w)) (sym (append-nil v)) t) in
        any_in k r (λ q. run k r (init k r l) v q && final k r q) z.0
        (and_in (run k r (init k r l) v z.0) (final k r z.0) z.1 ((final_right k r z.0).0 z.2))

    back : T (accepts k r (l ∷ v)) → MatchesUnder k r (l ∷ v)
    back t =
        let a = any_out k r (λ q. run k r (init k r l) v q && final k r q) t in
        let o = and_out (run k r (init k r l) v a.0) (final k r a.0) a.1 in
        subst (λ (w : List Letter). MatchesUnder k r (l ∷ w)) (append-nil v)
        ((after_right k r l v []).1 (a.0, o.0, (final_right k r a.0).1 o.1))

-- what completes a match from a state, letter by letter
pub completes_right : (k : Clock) (r : Sequence) (p : State k r) (v : List Letter) → Rest k r p v ↔ Completes k r p v
completes_right k r p [] = final_right k r p
completes_right k r p (l ∷ v) = (
  (λ x. let (q, s, y) = (step_right k r l p v).0 x in (q, s, (completes_right k r q v).0 y)),
  (λ (q, s, y). (step_right k r l p v).1 (q, s, (completes_right k r q v).1 y)),
)
