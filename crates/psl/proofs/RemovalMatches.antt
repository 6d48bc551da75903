-- Clock removal on sequences: they match the same lists.
use Rattle.std.proofs.Common.{T, List, [], ◌∷◌, ◌++◌, refl, ap, append_assoc}
use Rattle.psl.specs.Syntax.{Condition, negation, conjunction, Sequence, condition, concat, fusion, either, both, empty, star, sequence_at}
use Rattle.psl.specs.Letter.{Letter, top, bottom, ordinary, satisfies}
use Rattle.psl.specs.Word.{Ends}
use Rattle.psl.specs.Clocked.{Repeats, done, more}
use Rattle.psl.specs.Removal.{unclock_sequence}
use Rattle.psl.specs.OptionalClock.{free, on, TickUnder, MatchesUnder}
use Rattle.psl.proofs.Same.{iff_sum, iff_both, Same, concat_same, fusion_same, star_same}
use Rattle.psl.proofs.Tests.{and_in, and_out}

pub conjoin : (l : Letter) (c b : Condition) → T (satisfies l c) → T (satisfies l b) → T (satisfies l (conjunction c b))
conjoin top c b p q = tt
conjoin bottom c b p q = p
conjoin (ordinary x y) c b p q = and_in (satisfies (ordinary x y) c) (satisfies (ordinary x y) b) p q

pub conjoin_left : (l : Letter) (c b : Condition) → T (satisfies l (conjunction c b)) → T (satisfies l c)
conjoin_left top c b p = tt
conjoin_left bottom c b p = p
conjoin_left (ordinary x y) c b p = (and_out (satisfies (ordinary x y) c) (satisfies (ordinary x y) b) p).0

pub conjoin_right : (l : Letter) (c b : Condition) → T (satisfies l (conjunction c b)) → T (satisfies l b)
conjoin_right top c b p = tt
conjoin_right bottom c b p = p
conjoin_right (ordinary x y) c b p = (and_out (satisfies (ordinary x y) c) (satisfies (ordinary x y) b) p).1

ends_cons : (b : Condition) (l : Letter) (v : List Letter) → Ends b v → Ends b (l ∷ v)
ends_cons b l [] t = absurd t
ends_cons b l (m ∷ v) t = t

tick_cons : (c : Condition) (l : Letter) (v : List Letter) → T (satisfies l (negation c)) → TickUnder (on c) v → TickUnder (on c) (l ∷ v)
tick_cons c l [] p t = absurd t
tick_cons c l (m ∷ v) p t = (p, t)

tick_to : (c b : Condition) (v : List Letter) → TickUnder (on c) v → Ends b v → MatchesUnder free (unclock_sequence c (condition b)) v
tick_to c b [] t e = absurd t
tick_to c b (l ∷ []) t e = ([], l ∷ [], refl, done, (tt, conjoin l c b t e))
tick_to c b (l ∷ (m ∷ v)) t e =
    let s = tick_to c b (m ∷ v) t.1 e in
    (l ∷ s.0, s.1, ap (λ x. l ∷ x) s.2, more l [] s.0 refl (tt, t.0) s.3, s.4)

one_tick : (c b : Condition) (w : List Letter) → MatchesUnder free (condition (conjunction c b)) w → TickUnder (on c) w × Ends b w
one_tick c b [] o = absurd o.0
one_tick c b (l ∷ []) o = (conjoin_left l c b o.1, conjoin_right l c b o.1)
one_tick c b (l ∷ (m ∷ w)) o = absurd o.0.0

wait_cons : (c b : Condition) (l : Letter) (u w : List Letter) → MatchesUnder free (condition (negation c)) (l ∷ u) → TickUnder (on c) w × Ends b w
    → TickUnder (on c) ((l ∷ u) ++ w) × Ends b ((l ∷ u) ++ w)
wait_cons c b l [] w o t = (tick_cons c l w o.1 t.0, ends_cons b l w t.1)
wait_cons c b l (m ∷ u) w o t = absurd o.0.0

tick_from : (c b : Condition) {u : List Letter} (w : List Letter) → MatchesUnder free (condition (conjunction c b)) w
    → Repeats (MatchesUnder free (condition (negation c))) u → TickUnder (on c) (u ++ w) × Ends b (u ++ w)
tick_from c b w o done = one_tick c b w o
tick_from c b w o (more l u x e p q) = rw (e, append_assoc u x w) (wait_cons c b l u (x ++ w) p (tick_from c b w o q))

pub removal_matches : (c : Condition) (r : Sequence) → Same (MatchesUnder (on c) r) (MatchesUnder free (unclock_sequence c r))
removal_matches c (condition b) = λ v. ((λ (t, e). tick_to c b v t e), (λ (u, w, e, x, o). rw e (tick_from c b w o x)))
removal_matches c (concat r s) = concat_same (removal_matches c r) (removal_matches c s)
removal_matches c (fusion r s) = fusion_same (removal_matches c r) (removal_matches c s)
removal_matches c (either r s) = λ v. iff_sum (removal_matches c r v) (removal_matches c s v)
removal_matches c (both r s) = λ v. iff_both (removal_matches c r v) (removal_matches c s v)
removal_matches c empty = λ v. (λ x. x, λ x. x)
removal_matches c (star r) = star_same (removal_matches c r)
removal_matches c (sequence_at r d) = removal_matches d r
