-- The image of a property's sequence under a clock, and where a draft has it.
use Rattle.std.specs.Prelude.{◌≡◌, ℕ, ◌+◌, ◌<◌, Bool, true, false, List, length, slice_index, slice_index_or}
use Rattle.psl.specs.Syntax.{Sequence, falsity, empty}
use Rattle.psl.specs.Removal.{unclock_sequence}
use Rattle.psl.specs.declared.entry.Sequence as entryS
use Rattle.psl.specs.declared.entry.Sequence.TheVariants as s
use Rattle.property.specs.declared.place.Property.{Property}
use Rattle.property.specs.Place.{conditions_of, sequences_of, condition_trees, sequence_trees}
use Rattle.form.specs.declared.draft.Draft as code
use Rattle.form.specs.Draft.{conditions_in, sequences_in, formulas_in, ConditionIs, SequenceIs, Grows}
use Rattle.form.specs.Pairs.{key, sequence_adds_conditions, sequence_adds_sequences, total}

-- what clock removal makes of sequence i under clock c
abbrev pub sequence_image : Property → ℕ → ℕ → Sequence
sequence_image p i c = unclock_sequence (slice_index_or (condition_trees p) c falsity) (slice_index_or (sequence_trees p) i empty)

-- the draft has the property's conditions
abbrev pub Carries : Property → code.Draft → Type 0
Carries p d = (k : ℕ) → k < length (conditions_of p) → ConditionIs d k (slice_index_or (condition_trees p) k falsity)

-- what holds of each pair that is met with a sequence under clock c
abbrev pub ForOperands : (ℕ → ℕ → Type 0) → entryS.Sequence → ℕ → Type 0
ForOperands P (s.Condition a) c = Unit {0}
ForOperands P (s.Concat a b) c = P a c × P b c
ForOperands P (s.Fusion a b) c = P a c × P b c
ForOperands P (s.Either a b) c = P a c × P b c
ForOperands P (s.Both a b) c = P a c × P b c
ForOperands P s.Empty c = Unit {0}
ForOperands P (s.Star a) c = P a c
ForOperands P (s.At a d) c = P a d

-- the draft has the image of a pair where the places say
abbrev pub SequencePlaced : Property → code.Draft → List ℕ → ℕ → ℕ → Type 0
SequencePlaced p d places i c = SequenceIs d (slice_index places (key i c)) (sequence_image p i c)

-- the image of sequence i under clock c was added, as number r
pub record WroteSequence (p : Property) (i c : ℕ) (d e : code.Draft) (r : ℕ) : Type 0 where
  pub grows : Grows d e
  pub is : SequenceIs e r (sequence_image p i c)
  pub count_c : length (conditions_in e) ≡ length (conditions_in d) + sequence_adds_conditions (slice_index_or (sequences_of p) i (s.Condition 0))
  pub count_s : length (sequences_in e) ≡ length (sequences_in d) + sequence_adds_sequences (slice_index_or (sequences_of p) i (s.Condition 0))
  pub count_f : length (formulas_in e) ≡ length (formulas_in d)

-- pair (i, c) is marked
abbrev pub Marked : List Bool → ℕ → ℕ → Type 0
Marked met i c = slice_index_or met (key i c) false ≡ true

-- with each pair that is marked, those of its operands are, and its clock is a condition
abbrev pub SequencesClosed : Property → List Bool → Type 0
SequencesClosed p met =
    (i c : ℕ) → i < length (sequences_of p) → c < 64 → Marked met i c
    → (c < length (conditions_of p)) × ForOperands (Marked met) (slice_index_or (sequences_of p) i (s.Condition 0)) c

-- each marked pair below key n has its image
abbrev pub SequencesWritten : Property → List Bool → code.Draft → List ℕ → ℕ → Type 0
SequencesWritten p met d places n = (i c : ℕ) → c < 64 → key i c < n → Marked met i c → SequencePlaced p d places i c

-- what stands after the pairs of sequences below key k were written
abbrev pub SequencesStand : Property → List Bool → code.Draft → code.Draft → List ℕ → ℕ → Type 0
SequencesStand p met d₀ d places k =
    Grows d₀ d × Carries p d × SequencesWritten p met d places k
    × (length (conditions_in d) ≡ length (conditions_in d₀) + total (s.Condition 0) sequence_adds_conditions (sequences_of p) met k)
    × (length (sequences_in d) ≡ length (sequences_in d₀) + total (s.Condition 0) sequence_adds_sequences (sequences_of p) met k)
    × (length (formulas_in d) ≡ length (formulas_in d₀))

-- a draft with the property's conditions and nothing else
pub record Fresh (p : Property) (d : code.Draft) : Type 0 where
  pub carries : Carries p d
  pub count_c : length (conditions_in d) ≡ length (conditions_of p)
  pub count_s : length (sequences_in d) ≡ 0
  pub count_f : length (formulas_in d) ≡ 0
