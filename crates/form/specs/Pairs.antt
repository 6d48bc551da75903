-- Pairs of an entry and a clock, as keys: entry i under clock c is 64 * i + c.
use Rattle.std.specs.Prelude.{ℕ, zero, suc, ◌+◌, ◌*◌, ◌/◌, Bool, false, cond, List, slice_index_or}
use Rattle.psl.specs.declared.entry.Sequence as entryS
use Rattle.psl.specs.declared.entry.Sequence.TheVariants as s
use Rattle.psl.specs.declared.entry.Formula as entryF
use Rattle.psl.specs.declared.entry.Formula.TheVariants as f

-- the key of entry i under clock c
abbrev pub key : ℕ → ℕ → ℕ
key i c = 64 * i + c

-- the conditions that a met sequence adds
abbrev pub sequence_adds_conditions : entryS.Sequence → ℕ
sequence_adds_conditions (s.Condition a) = 2
sequence_adds_conditions (s.Concat a b) = 0
sequence_adds_conditions (s.Fusion a b) = 0
sequence_adds_conditions (s.Either a b) = 0
sequence_adds_conditions (s.Both a b) = 0
sequence_adds_conditions s.Empty = 0
sequence_adds_conditions (s.Star a) = 0
sequence_adds_conditions (s.At a d) = 0

-- the sequences that a met sequence adds
abbrev pub sequence_adds_sequences : entryS.Sequence → ℕ
sequence_adds_sequences (s.Condition a) = 4
sequence_adds_sequences (s.Concat a b) = 1
sequence_adds_sequences (s.Fusion a b) = 1
sequence_adds_sequences (s.Either a b) = 1
sequence_adds_sequences (s.Both a b) = 1
sequence_adds_sequences s.Empty = 1
sequence_adds_sequences (s.Star a) = 1
sequence_adds_sequences (s.At a d) = 0

-- the conditions that a met formula adds
abbrev pub formula_adds_conditions : entryF.Formula → ℕ
formula_adds_conditions (f.Strong a) = 2
formula_adds_conditions (f.Weak a) = 3
formula_adds_conditions (f.StrongSequence a) = 0
formula_adds_conditions (f.WeakSequence a) = 0
formula_adds_conditions (f.Not a) = 0
formula_adds_conditions (f.And a b) = 0
formula_adds_conditions (f.Next a) = 1
formula_adds_conditions (f.Until a b) = 0
formula_adds_conditions (f.Abort a b) = 0
formula_adds_conditions (f.Implies a b) = 0
formula_adds_conditions (f.At a d) = 0

-- the formulas that a met formula adds
abbrev pub formula_adds_formulas : entryF.Formula → ℕ
formula_adds_formulas (f.Strong a) = 3
formula_adds_formulas (f.Weak a) = 4
formula_adds_formulas (f.StrongSequence a) = 1
formula_adds_formulas (f.WeakSequence a) = 1
formula_adds_formulas (f.Not a) = 1
formula_adds_formulas (f.And a b) = 1
formula_adds_formulas (f.Next a) = 7
formula_adds_formulas (f.Until a b) = 6
formula_adds_formulas (f.Abort a b) = 1
formula_adds_formulas (f.Implies a b) = 1
formula_adds_formulas (f.At a d) = 0

-- what the met pairs below key n add in all
abbrev pub total : {E : Type 0} → E → (E → ℕ) → List E → List Bool → ℕ → ℕ
total e adds es met zero = 0
total e adds es met (suc k) = total e adds es met k + cond (slice_index_or met k false) (adds (slice_index_or es (k / 64) e)) 0
