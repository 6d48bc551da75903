-- Where live and live_start tell whether some non-empty run of tops completes a match: under every clock, and free of one in ticked sequences.
use Rattle.std.proofs.Common.{◌≡◌, ℕ, zero, suc, ◌≤◌, ◌&&◌, T, ◌⊎◌, ◌↔◌, List, [], ◌∷◌, ◌++◌, sym, refl, ap, subst, ap₂, inl, inr, arith}
use Rattle.psl.specs.Syntax.{Condition, Sequence, condition, concat, fusion, either, both, empty, star, sequence_at}
use Rattle.psl.specs.Letter.{Letter, top}
use Rattle.psl.specs.Word.{Ends}
use Rattle.psl.specs.Clocked.{Repeats, done, more}
use Rattle.psl.specs.Automaton.{Leaf, waiting, over, State, init, run, run_of_tops, live_start, live, extends}
use Rattle.psl.specs.Images.{is_condition, is_wait, ticked}
use Rattle.psl.specs.OptionalClock.{Clock, free, on, TickUnder, MatchesUnder}
use Rattle.psl.proofs.Accept.{Rest, null_right, final_right, any_in, any_out, after_right}
use Rattle.psl.proofs.Languages.{nil_cons}
use Rattle.psl.proofs.RunsOfTops.{tops_snoc, Late, late_some, Tells, concat_tells, fusion_tells, either_tells, both_tells, star_tells, again_tells}
use Rattle.psl.proofs.Tests.{and_in, and_out, or_out}

-- of this sequence they tell it
pub record Stretches (k : Clock) (r : Sequence) : Type 0 where
  pub start : Tells (live_start r) (MatchesUnder k r)
  pub state : (p : State k r) → Tells (live k r p) (Rest k r p)

module _ (k : Clock) (r s : Sequence) (x : Stretches k r) (y : Stretches k s) where
  concat_stretches : Stretches k (concat r s)
  concat_stretches = record {
    start = concat_tells (MatchesUnder k r) (MatchesUnder k s) _ _ x.start y.start _ _ (null_right k r) (null_right k s);
    state = each;
  }
    where
      each : (p : State k r ⊎ State k s) → Tells (live k (concat r s) p) (Rest k (concat r s) p)
      each (inl p) = concat_tells (Rest k r p) (MatchesUnder k s) _ _ (x.state p) y.start _ _ (final_right k r p) (null_right k s)
      each (inr q) = y.state q

  fusion_stretches : Stretches k (fusion r s)
  fusion_stretches = record { start = fusion_tells (MatchesUnder k r) (MatchesUnder k s) _ _ x.start y.start; state = each }
    where
      each : (p : State k r ⊎ State k s) → Tells (live k (fusion r s) p) (Rest k (fusion r s) p)
      each (inl p) = fusion_tells (Rest k r p) (MatchesUnder k s) _ _ (x.state p) y.start
      each (inr q) = y.state q

  either_stretches : Stretches k (either r s)
  either_stretches = record { start = either_tells (MatchesUnder k r) (MatchesUnder k s) _ _ x.start y.start; state = each }
    where
      each : (p : State k r ⊎ State k s) → Tells (live k (either r s) p) (Rest k (either r s) p)
      each (inl p) = x.state p
      each (inr q) = y.state q

  both_stretches : Stretches k (both r s)
  both_stretches = record {
    start = both_tells (MatchesUnder k r) (MatchesUnder k s) _ _ x.start y.start;
    state = λ p. both_tells (Rest k r p.0) (Rest k s p.1) _ _ (x.state p.0) (y.state p.1);
  }

empty_stretches : (k : Clock) → Stretches k empty
empty_stretches k = record { start = (λ t. absurd t, λ t. nil_cons (sym t.1)); state = λ p. absurd p }

star_stretches : (k : Clock) (r : Sequence) → Stretches k r → Stretches k (star r)
star_stretches k r x = record {
  start = star_tells (MatchesUnder k r) _ x.start;
  state = λ p. again_tells (Rest k r p) (MatchesUnder k r) _ _ _ (final_right k r p) (x.state p) x.start;
}

clocked_stretches : (k : Clock) (r : Sequence) (d : Condition) → Stretches (on d) r → Stretches k (sequence_at r d)
clocked_stretches k r d x = record { start = x.start; state = x.state }

-- a condition under a clock
tick_tops : (c : Condition) (n : ℕ) → TickUnder (on c) (run_of_tops (suc n))
tick_tops c zero = tt
tick_tops c (suc n) = (tt, tick_tops c n)

ends_tops : (b : Condition) (n : ℕ) → Ends b (run_of_tops (suc n))
ends_tops b zero = tt
ends_tops b (suc n) = ends_tops b n

late_leaf : (c b : Condition) → Late (λ v. TickUnder (on c) v × Ends b v)
late_leaf c b = (1, go)
  where
    go : (n : ℕ) → 1 ≤ n → TickUnder (on c) (run_of_tops n) × Ends b (run_of_tops n)
    go zero h = absurd (omega arith)
    go (suc n) h = (tick_tops c n, ends_tops b n)

leaf_stretches : (c b : Condition) → Stretches (on c) (condition b)
leaf_stretches c b = record { start = (λ t. late_leaf c b, λ t. tt); state = each }
  where
    each : (p : Leaf) → Tells (live (on c) (condition b) p) (Rest (on c) (condition b) p)
    each waiting = (λ t. late_leaf c b, λ t. tt)
    each over = (λ t. absurd t, λ t. nil_cons (sym t.1))

-- and its image: {not c}[*]; {c and b}
ones : (b : Condition) (n : ℕ) → Repeats (MatchesUnder free (condition b)) (run_of_tops n)
ones b zero = done
ones b (suc n) = more top [] (run_of_tops n) refl (tt, tt) (ones b n)

late_image : (a b : Condition) → Late (MatchesUnder free (concat (star (condition a)) (condition b)))
late_image a b = (1, go)
  where
    go : (n : ℕ) → 1 ≤ n → MatchesUnder free (concat (star (condition a)) (condition b)) (run_of_tops n)
    go zero h = absurd (omega arith)
    go (suc n) h = (run_of_tops n, top ∷ [], tops_snoc n, ones a n, (tt, tt))

late_waiting : (a b : Condition) → Late (Rest free (concat (star (condition a)) (condition b)) (inl tt))
late_waiting a b =
    let z = late_image a b in
    (z.0, λ n h. let m = z.1 n h in (m.0, m.1, m.2, ([], m.0, refl, refl, m.3), m.4))

tick_stretches : (a b : Condition) → Stretches free (concat (star (condition a)) (condition b))
tick_stretches a b = record { start = (λ t. late_image a b, λ t. tt); state = each }
  where
    each : (p : Unit {0} ⊎ Unit {0}) → Tells (live free (concat (star (condition a)) (condition b)) p) (Rest free (concat (star (condition a)) (condition b)) p)
    each (inl p) = (λ t. late_waiting a b, λ t. tt)
    each (inr p) = (λ t. absurd t, λ t. nil_cons (sym t.1))

-- every sequence under a clock
pub clock_stretches : (c : Condition) (r : Sequence) → Stretches (on c) r
clock_stretches c (condition b) = leaf_stretches c b
clock_stretches c (concat r s) = concat_stretches (on c) r s (clock_stretches c r) (clock_stretches c s)
clock_stretches c (fusion r s) = fusion_stretches (on c) r s (clock_stretches c r) (clock_stretches c s)
clock_stretches c (either r s) = either_stretches (on c) r s (clock_stretches c r) (clock_stretches c s)
clock_stretches c (both r s) = both_stretches (on c) r s (clock_stretches c r) (clock_stretches c s)
clock_stretches c empty = empty_stretches (on c)
clock_stretches c (star r) = star_stretches (on c) r (clock_stretches c r)
clock_stretches c (sequence_at r d) = clocked_stretches (on c) r d (clock_stretches d r)

-- the shape {a}[*];{b}
condition_of : (r : Sequence) → T (is_condition r) → (b : Condition) × (r ≡ condition b)
condition_of (condition b) t = (b, refl)
condition_of (concat r s) t = absurd t
condition_of (fusion r s) t = absurd t
condition_of (either r s) t = absurd t
condition_of (both r s) t = absurd t
condition_of empty t = absurd t
condition_of (star r) t = absurd t
condition_of (sequence_at r d) t = absurd t

wait_of : (r : Sequence) → T (is_wait r) → (a : Condition) × (r ≡ star (condition a))
wait_of (condition b) t = absurd t
wait_of (concat r s) t = absurd t
wait_of (fusion r s) t = absurd t
wait_of (either r s) t = absurd t
wait_of (both r s) t = absurd t
wait_of empty t = absurd t
wait_of (star r) t = let (a, e) = condition_of r t in (a, ap star e)
wait_of (sequence_at r d) t = absurd t

pair_stretches : (r s : Sequence) → T (is_wait r) → T (is_condition s) → Stretches free (concat r s)
pair_stretches r s t u =
    let (a, e) = wait_of r t in
    let (b, d) = condition_of s u in
    subst (Stretches free) (sym (ap₂ concat e d)) (tick_stretches a b)

concat_ticked : (r s : Sequence) → (T (ticked r) → Stretches free r) → (T (ticked s) → Stretches free s)
    → T (is_wait r && is_condition s) ⊎ T (ticked r && ticked s) → Stretches free (concat r s)
concat_ticked r s x y (inl t) = let o = and_out (is_wait r) (is_condition s) t in pair_stretches r s o.0 o.1
concat_ticked r s x y (inr t) = let o = and_out (ticked r) (ticked s) t in concat_stretches free r s (x o.0) (y o.1)

pub ticked_stretches : (r : Sequence) → T (ticked r) → Stretches free r
ticked_stretches (condition b) t = absurd t
ticked_stretches (concat r s) t =
    concat_ticked r s (ticked_stretches r) (ticked_stretches s) (or_out (is_wait r && is_condition s) (ticked r && ticked s) t)
ticked_stretches (fusion r s) t = let o = and_out (ticked r) (ticked s) t in fusion_stretches free r s (ticked_stretches r o.0) (ticked_stretches s o.1)
ticked_stretches (either r s) t = let o = and_out (ticked r) (ticked s) t in either_stretches free r s (ticked_stretches r o.0) (ticked_stretches s o.1)
ticked_stretches (both r s) t = let o = and_out (ticked r) (ticked s) t in both_stretches free r s (ticked_stretches r o.0) (ticked_stretches s o.1)
ticked_stretches empty t = empty_stretches free
ticked_stretches (star r) t = star_stretches free r (ticked_stretches r t)
ticked_stretches (sequence_at r d) t = absurd t

pub extends_right : (k : Clock) (r : Sequence) → Stretches k r → (v : List Letter) → ((m : ℕ) × MatchesUnder k r (v ++ run_of_tops (suc m))) ↔ T (extends k r v)
extends_right k r x [] = (x.start.1, λ t. late_some (MatchesUnder k r) (x.start.0 t))
extends_right k r x (l ∷ v) = (there, back)
  where
    there : ((m : ℕ) × MatchesUnder k r (l ∷ (v ++ run_of_tops (suc m)))) → T (extends k r (l ∷ v))
    there t =
        let z = (after_right k r l v (run_of_tops (suc t.0))).0 t.1 in
        any_in k r (λ q. run k r (init k r l) v q && live k r q) z.0
        (and_in (run k r (init k r l) v z.0) (live k r z.0) z.1 ((x.state z.0).1 (t.0, z.2)))

    back : T (extends k r (l ∷ v)) → ((m : ℕ) × MatchesUnder k r (l ∷ (v ++ run_of_tops (suc m))))
    back t =
        let a = any_out k r (λ q. run k r (init k r l) v q && live k r q) t in
        let o = and_out (run k r (init k r l) v a.0) (live k r a.0) a.1 in
        let e = late_some (Rest k r a.0) ((x.state a.0).0 o.1) in
        (e.0, (after_right k r l v (run_of_tops (suc e.0))).1 (a.0, o.0, e.1))
