-- What the meaning implies, each theorem for all letters, words, conditions, sequences and formulas.
use Rattle.std.specs.Prelude.{◌≡◌, ℕ, suc, ◌+◌, ◌<◌, ◌≤◌, Bool, true, false, ◌&&◌, T, ◌↔◌, List, ◌∷◌, ◌++◌}
use Rattle.psl.specs.Syntax.{Condition, Sequence, condition, concat, fusion, either, both, empty, star, sequence_at, Formula, strong_sequence}
use Rattle.psl.specs.Syntax.{weak_sequence, abort}
use Rattle.psl.specs.Letter.{Letter}
use Rattle.psl.specs.Word.{end, tops, bottoms, Word, with_tail, with_tops, mir, seen, Holds, front}
use Rattle.psl.specs.Clocked.{Matches, Satisfies}
use Rattle.psl.specs.Unclocked.{UnclockedMatches, UnclockedSatisfies}
use Rattle.psl.specs.Removal.{unclock_sequence, unclock}
use Rattle.psl.specs.Verdict.{Verdict, ClockFreeVerdict}
use Rattle.psl.specs.Automaton.{states, State, accepts, Completes, run_of_tops, live, extends}
use Rattle.psl.specs.Images.{ticked}
use Rattle.psl.specs.Numbered.{number}
use Rattle.psl.specs.OptionalClock.{Clock, free, on, clock_free}
use Rattle.psl.specs.Order.{◌⊑◌, Nonempty, topped}
use Rattle.psl.specs.Table.{size}

-- under a clock, a non-empty word with letters raised to a non-empty word satisfies at least as much
abbrev pub RaisedSatisfiesMore : Type 0
RaisedSatisfiesMore =
    (c : Condition) (f : Formula) (w w' : Word) → w ⊑ w' → Nonempty w → Nonempty w' → Satisfies c f w → Satisfies c f w'

-- the mirror turns the order round
abbrev pub MirrorTurnsOrder : Type 0
MirrorTurnsOrder = (w w' : Word) → w ⊑ w' → mir w' ⊑ mir w

-- a verdict for good stays, whatever letters follow
pub record PermanentVerdicts : Type 0 where
  pub held_stays : (c : Condition) (f : Formula) (v u : List Letter) → Verdict c f v 3 → Verdict c f (v ++ u) 3
  pub failed_stays : (c : Condition) (f : Formula) (v u : List Letter) → Verdict c f v 0 → Verdict c f (v ++ u) 0

-- how much a view counts: 1 if it says yes, 0 if it says no
pub data Counts (A : Type 0) : ℕ → Type 0 where
  says_yes : A → Counts A 1
  says_no : (A → ⊥) → Counts A 0

-- n of the three views of the letters v (with endless bottoms, bare, with endless tops) say yes by the satisfaction S
abbrev pub Views : (Word → Type 0) → List Letter → ℕ → Type 0
Views S v n =
    (i j k : ℕ) × Counts (S (with_tail v bottoms)) i × Counts (S (with_tail v end)) j × Counts (S (with_tail v tops)) k × (n ≡ i + j + k)

-- on a non-empty word the verdict is the number of views that say yes
abbrev pub VerdictCountsViews : Type 0
VerdictCountsViews =
    (c : Condition) (f : Formula) (l : Letter) (v : List Letter) (n : ℕ) → Verdict c f (l ∷ v) n ↔ Views (Satisfies c f) (l ∷ v) n

-- an abort is decided by the first place that satisfies its condition, if there is one
pub record AbortByFirstPlace : Type 0 where
  pub first_place : (c b : Condition) (f : Formula) (w : Word) (j : ℕ) → Holds (seen w j) b → ((i : ℕ) → i < j → Holds (seen w i) b → ⊥)
      → Satisfies c (abort f b) w ↔ Satisfies c f (with_tops (front w j))
  pub no_place : (c b : Condition) (f : Formula) (w : Word) → ((j : ℕ) → Holds (seen w j) b → ⊥) → Satisfies c (abort f b) w ↔ Satisfies c f w

-- on a non-empty word the longest prefix decides a weak sequence: r is r! on the word with endless tops after its end
abbrev pub WeakByLongestPrefix : Type 0
WeakByLongestPrefix =
    (c : Condition) (r : Sequence) (w : Word) → Nonempty w → Satisfies c (weak_sequence r) w ↔ Satisfies c (strong_sequence r) (topped w)

-- the sequence has no r:s
abbrev pub without_fusion : Sequence → Bool
without_fusion (condition b) = true
without_fusion (concat r s) = without_fusion r && without_fusion s
without_fusion (fusion r s) = false
without_fusion (either r s) = without_fusion r && without_fusion s
without_fusion (both r s) = without_fusion r && without_fusion s
without_fusion empty = true
without_fusion (star r) = without_fusion r
without_fusion (sequence_at r d) = without_fusion r

-- the states of the automaton number exactly `states`: under a clock at most the size of the sequence, and the size itself where there is no r:s
pub record StatesNumbered : Type 0 where
  pub below : (k : Clock) (r : Sequence) (p : State k r) → number k r p < states k r
  pub apart : (k : Clock) (r : Sequence) (p q : State k r) → number k r p ≡ number k r q → p ≡ q
  pub each : (k : Clock) (r : Sequence) (n : ℕ) → n < states k r → (p : State k r) × (number k r p ≡ n)
  pub within_size : (c : Condition) (r : Sequence) → states (on c) r ≤ size r
  pub exactly_size : (c : Condition) (r : Sequence) → T (without_fusion r) → states (on c) r ≡ size r

-- the automaton of a sequence accepts exactly the lists that match it
pub record AutomatonAcceptsMatches : Type 0 where
  pub clocked : (c : Condition) (r : Sequence) (v : List Letter) → Matches c r v ↔ T (accepts (on c) r v)
  pub unclocked : (r : Sequence) (v : List Letter) → T (clock_free r) → UnclockedMatches r v ↔ T (accepts free r v)

-- whether one or more tops complete a match is a Boolean, of a state and of a list of letters read
pub record TopsDecided : Type 0 where
  -- under a clock
  pub live_state : (c : Condition) (r : Sequence) (p : State (on c) r) → ((n : ℕ) × Completes (on c) r p (run_of_tops (suc n))) ↔ T (live (on c) r p)
  pub live_list : (c : Condition) (r : Sequence) (v : List Letter) → ((n : ℕ) × Matches c r (v ++ run_of_tops (suc n))) ↔ T (extends (on c) r v)
  -- free of a clock, in the sequences that clock removal gives
  pub ticked_state : (r : Sequence) → T (ticked r) → (p : State free r) → ((n : ℕ) × Completes free r p (run_of_tops (suc n))) ↔ T (live free r p)
  pub ticked_list : (r : Sequence) → T (ticked r) → (v : List Letter) → ((n : ℕ) × UnclockedMatches r (v ++ run_of_tops (suc n))) ↔ T (extends free r v)
  pub image_ticked : (c : Condition) (r : Sequence) → T (ticked (unclock_sequence c r))
  -- in every sequence, by trying at most as many tops as there are states
  pub each_state : (k : Clock) (r : Sequence) (p : State k r) → Dec ((n : ℕ) × Completes k r p (run_of_tops (suc n)))

-- what one or more tops complete, from a state or after a list, at most as many tops as there are states complete
pub record TopsEnough : Type 0 where
  pub from_state : (k : Clock) (r : Sequence) (p : State k r) → ((n : ℕ) × Completes k r p (run_of_tops (suc n)))
      → (n : ℕ) × (n < states k r) × Completes k r p (run_of_tops (suc n))
  pub clocked : (c : Condition) (r : Sequence) (v : List Letter) → ((n : ℕ) × Matches c r (v ++ run_of_tops (suc n)))
      → (n : ℕ) × (n < states (on c) r) × Matches c r (v ++ run_of_tops (suc n))
  pub unclocked : (r : Sequence) → T (clock_free r) → (v : List Letter) → ((n : ℕ) × UnclockedMatches r (v ++ run_of_tops (suc n)))
      → (n : ℕ) × (n < states free r) × UnclockedMatches r (v ++ run_of_tops (suc n))

-- both meanings are decidable, of every list and on every word
pub record MeaningsDecidable : Type 0 where
  pub clocked_matches : (c : Condition) (r : Sequence) (v : List Letter) → Dec (Matches c r v)
  pub unclocked_matches : (r : Sequence) (v : List Letter) → Dec (UnclockedMatches r v)
  pub clocked : (c : Condition) (f : Formula) (w : Word) → Dec (Satisfies c f w)
  pub unclocked : (f : Formula) (w : Word) → Dec (UnclockedSatisfies f w)

-- a clock written into a tree changes nothing: neither matches, nor satisfaction, nor verdicts, nor how many states are needed
pub record ClockRemoval : Type 0 where
  pub matches : (c : Condition) (r : Sequence) (v : List Letter) → Matches c r v ↔ UnclockedMatches (unclock_sequence c r) v
  pub satisfies : (c : Condition) (f : Formula) (w : Word) → Satisfies c f w ↔ UnclockedSatisfies (unclock c f) w
  pub verdicts : (c : Condition) (f : Formula) (v : List Letter) (n : ℕ) → Verdict c f v n ↔ ClockFreeVerdict (unclock c f) v n
  pub sizes : (c : Condition) (r : Sequence) → states free (unclock_sequence c r) ≡ states (on c) r
