-- The theorems about what the meaning implies.
use Rattle.std.proofs.Common.{◌≡◌, ℕ, suc, ◌+◌, ◌*◌, ◌<◌, ◌≤◌, T, ◌↔◌, List, ◌++◌, refl, ap₂, mul-le-mul, arith}
use Rattle.psl.specs.Syntax.{Condition, Sequence, condition, concat, fusion, either, both, empty, star, sequence_at, Formula, strong_sequence}
use Rattle.psl.specs.Syntax.{weak_sequence, abort}
use Rattle.psl.specs.Letter.{Letter}
use Rattle.psl.specs.Word.{end, tops, bottoms, Word, with_tail, with_tops, seen, Holds, front}
use Rattle.psl.specs.Clocked.{Matches, Satisfies}
use Rattle.psl.specs.Unclocked.{UnclockedMatches, UnclockedSatisfies}
use Rattle.psl.specs.Removal.{unclock_sequence, unclock}
use Rattle.psl.specs.Verdict.{Judged, held_for_good, holds, pending, failed_for_good}
use Rattle.psl.specs.Automaton.{states, State, Completes, run_of_tops, live}
use Rattle.psl.specs.OptionalClock.{Clock, free, on}
use Rattle.psl.specs.Order.{topped}
use Rattle.psl.specs.Theorems.{AbortByFirstPlace, WeakByLongestPrefix, without_fusion, StatesNumbered, AutomatonAcceptsMatches}
use Rattle.psl.specs.Theorems.{TopsDecided, TopsEnough, MeaningsDecidable, ClockRemoval}
use Rattle.psl.proofs.Accept.{Rest, accepts_right, completes_right}
use Rattle.psl.proofs.ClockedMeaning.{clock_matches, clock_satisfies}
use Rattle.psl.proofs.Decide.{matches?, tops?, decide}
use Rattle.psl.proofs.Enough.{tops_enough_lem, tops_after}
use Rattle.psl.proofs.FirstPlace.{abort_none, clock_aborts}
use Rattle.psl.proofs.Images.{image_ticked, ticked_clock_free, image_tame, tame_satisfies, clock_free_matches, image_size}
use Rattle.psl.proofs.Live.{Stretches, clock_stretches, ticked_stretches, extends_right}
use Rattle.psl.proofs.Longest.{weak_longest}
use Rattle.psl.proofs.Number.{number_below, state_at, number_apart}
use Rattle.psl.proofs.RemovalFormulas.{clock_removal_lem}
use Rattle.psl.proofs.RemovalMatches.{removal_matches}
use Rattle.psl.proofs.RunsOfTops.{late_some}
use Rattle.psl.proofs.Tests.{and_out, iff_trans, iff_sym, dec_iff}
use Rattle.psl.proofs.UnclockedMeaning.{erase_sequence, erase, free_matches, free_satisfies}
use Rattle.psl.specs.Table.{size}

pub abort_by_first_place_lem : AbortByFirstPlace
abort_by_first_place_lem = record { first_place = first; no_place = none_there }
  where
    first : (c b : Condition) (f : Formula) (w : Word) (j : ℕ) → Holds (seen w j) b → ((i : ℕ) → i < j → Holds (seen w i) b → ⊥)
        → Satisfies c (abort f b) w ↔ Satisfies c f (with_tops (front w j))
    first c b f w j h n =
        iff_trans (clock_satisfies c (abort f b) w) (iff_trans (clock_aborts c f b w j h n) (iff_sym (clock_satisfies c f (with_tops (front w j)))))

    none_there : (c b : Condition) (f : Formula) (w : Word) → ((j : ℕ) → Holds (seen w j) b → ⊥) → Satisfies c (abort f b) w ↔ Satisfies c f w
    none_there c b f w n = iff_trans (clock_satisfies c (abort f b) w) (iff_trans (abort_none (on c) f b w n) (iff_sym (clock_satisfies c f w)))

pub weak_by_longest_prefix_lem : WeakByLongestPrefix
weak_by_longest_prefix_lem c r w p =
    iff_trans (clock_satisfies c (weak_sequence r) w) (iff_trans (weak_longest (on c) r w p) (iff_sym (clock_satisfies c (strong_sequence r) (topped w))))

-- each part of a sum or a product is within the whole
states_within : (c : Condition) (r : Sequence) → states (on c) r ≤ size r
states_within c (condition b) = omega arith
states_within c (concat r s) = omega (arith, states_within c r, states_within c s)
states_within c (fusion r s) = omega (arith, states_within c r, states_within c s)
states_within c (either r s) = omega (arith, states_within c r, states_within c s)
states_within c (both r s) = mul-le-mul (states_within c r) (states_within c s)
states_within c empty = omega arith
states_within c (star r) = states_within c r
states_within c (sequence_at r d) = states_within d r

states_exactly : (c : Condition) (r : Sequence) → T (without_fusion r) → states (on c) r ≡ size r
states_exactly c (condition b) t = refl
states_exactly c (concat r s) t =
    let (x, y) = and_out (without_fusion r) (without_fusion s) t in ap₂ ◌+◌ (states_exactly c r x) (states_exactly c s y)
states_exactly c (fusion r s) t = absurd t
states_exactly c (either r s) t =
    let (x, y) = and_out (without_fusion r) (without_fusion s) t in ap₂ ◌+◌ (states_exactly c r x) (states_exactly c s y)
states_exactly c (both r s) t =
    let (x, y) = and_out (without_fusion r) (without_fusion s) t in ap₂ ◌*◌ (states_exactly c r x) (states_exactly c s y)
states_exactly c empty t = refl
states_exactly c (star r) t = states_exactly c r t
states_exactly c (sequence_at r d) t = states_exactly d r t

pub states_numbered : StatesNumbered
states_numbered = record { below = number_below; apart = number_apart; each = state_at; within_size = states_within; exactly_size = states_exactly }

pub automaton_accepts_matches : AutomatonAcceptsMatches
automaton_accepts_matches = record {
  clocked = λ c r v. iff_trans (clock_matches c r v) (accepts_right (on c) r v);
  unclocked = λ r v t. iff_trans (clock_free_matches r t v) (accepts_right free r v);
}

-- some n, for equal sets
iff_some : {P Q : ℕ → Type 0} → ((n : ℕ) → P n ↔ Q n) → ((n : ℕ) × P n) ↔ ((n : ℕ) × Q n)
iff_some e = ((λ (n, x). (n, (e n).0 x)), (λ (n, x). (n, (e n).1 x)))

stretched : (k : Clock) (r : Sequence) → Stretches k r → (p : State k r) → ((n : ℕ) × Completes k r p (run_of_tops (suc n))) ↔ T (live k r p)
stretched k r x p =
    iff_trans (iff_some (λ n. iff_sym (completes_right k r p (run_of_tops (suc n))))) ((x.state p).1, λ t. late_some (Rest k r p) ((x.state p).0 t))

pub tops_decided_lem : TopsDecided
tops_decided_lem = record {
  live_state = λ c r. stretched (on c) r (clock_stretches c r);
  live_list = λ c r v. iff_trans (iff_some (λ n. clock_matches c r (v ++ run_of_tops (suc n)))) (extends_right (on c) r (clock_stretches c r) v);
  ticked_state = λ r t. stretched free r (ticked_stretches r t);
  ticked_list = λ r t v.
      iff_trans (iff_some (λ n. clock_free_matches r (ticked_clock_free r t) (v ++ run_of_tops (suc n)))) (extends_right free r (ticked_stretches r t) v);
  image_ticked = image_ticked;
  each_state = tops?;
}

-- some n in bounds, for equal sets
bounded : {P Q : ℕ → Type 0} (R : ℕ → Type 0) → ((n : ℕ) → P n ↔ Q n) → (((n : ℕ) × Q n) → (n : ℕ) × R n × Q n) → ((n : ℕ) × P n) → (n : ℕ) × R n × P n
bounded R e f (n, x) = let (m, h, y) = f (n, (e n).0 x) in (m, h, (e m).1 y)

pub tops_sufficient : TopsEnough
tops_sufficient = record {
  from_state = λ k r p. bounded (λ n. n < states k r) (λ n. iff_sym (completes_right k r p (run_of_tops (suc n)))) (tops_enough_lem k r p);
  clocked = λ c r v. bounded (λ n. n < states (on c) r) (λ n. clock_matches c r (v ++ run_of_tops (suc n))) (tops_after (on c) r v);
  unclocked = λ r t v. bounded (λ n. n < states free r) (λ n. clock_free_matches r t (v ++ run_of_tops (suc n))) (tops_after free r v);
}

pub meanings_decidable_lem : MeaningsDecidable
meanings_decidable_lem = record {
  clocked_matches = λ c r v. dec_iff (clock_matches c r v) (matches? (on c) r v);
  unclocked_matches = λ r v. dec_iff (free_matches r v) (matches? free (erase_sequence r) v);
  clocked = λ c f w. dec_iff (clock_satisfies c f w) (decide (on c) f w);
  unclocked = λ f w. dec_iff (free_satisfies f w) (decide free (erase f) w);
}

image_satisfies : (c : Condition) (f : Formula) (w : Word) → Satisfies c f w ↔ UnclockedSatisfies (unclock c f) w
image_satisfies c f w =
    iff_trans (clock_satisfies c f w) (iff_trans (clock_removal_lem c f w) (iff_sym (tame_satisfies (unclock c f) (image_tame c f) w)))

image_matches : (c : Condition) (r : Sequence) (v : List Letter) → Matches c r v ↔ UnclockedMatches (unclock_sequence c r) v
image_matches c r v =
    let image = unclock_sequence c r in
    iff_trans (clock_matches c r v) (iff_trans (removal_matches c r v) (iff_sym (clock_free_matches image (ticked_clock_free image (image_ticked c r)) v)))

-- equal satisfactions judge alike
judged_same : {S R : Word → Type 0} {v : List Letter} {n : ℕ} → ((w : Word) → S w ↔ R w) → Judged S v n → Judged R v n
judged_same {v = v} e (held_for_good s) = held_for_good ((e (with_tail v bottoms)).0 s)
judged_same {v = v} e (holds a s) = holds (λ x. a ((e (with_tail v bottoms)).1 x)) ((e (with_tail v end)).0 s)
judged_same {v = v} e (pending a b s) =
    pending (λ x. a ((e (with_tail v bottoms)).1 x)) (λ x. b ((e (with_tail v end)).1 x)) ((e (with_tail v tops)).0 s)
judged_same {v = v} e (failed_for_good a b d) =
    failed_for_good (λ x. a ((e (with_tail v bottoms)).1 x)) (λ x. b ((e (with_tail v end)).1 x)) (λ x. d ((e (with_tail v tops)).1 x))

pub clock_removed : ClockRemoval
clock_removed = record {
  matches = image_matches;
  satisfies = image_satisfies;
  verdicts = λ c f v n. (judged_same (image_satisfies c f), judged_same (λ w. iff_sym (image_satisfies c f w)));
  sizes = image_size;
}
