-- Which pairs of an entry and a clock are met.
use Rattle.std.specs.Prelude.{ℕ, zero, suc, ◌-◌, ◌*◌, ◌/◌, ◌%◌, ◌<◌, Bool, true, false, cond, List, length, replicate, slice_index_or, slice_set}
use Rattle.psl.specs.declared.entry.Sequence as entryS
use Rattle.psl.specs.declared.entry.Sequence.TheVariants as s
use Rattle.psl.specs.declared.entry.Formula as entryF
use Rattle.psl.specs.declared.entry.Formula.TheVariants as f
use Rattle.property.specs.declared.place.Property.{Property}
use Rattle.property.specs.Place.{conditions_of, sequences_of, formulas_of}
use Rattle.form.specs.Pairs.{key}
use Rattle.form.specs.SequenceImages.{Marked, SequencesClosed}
use Rattle.form.specs.FormulaImages.{FormulasClosed}

-- the marks with those of an entry's operands, under clock c
abbrev pub with_operands : entryS.Sequence → ℕ → List Bool → List Bool
with_operands (s.Condition a) c met = met
with_operands (s.Concat a b) c met = slice_set (slice_set met (key a c) true) (key b c) true
with_operands (s.Fusion a b) c met = slice_set (slice_set met (key a c) true) (key b c) true
with_operands (s.Either a b) c met = slice_set (slice_set met (key a c) true) (key b c) true
with_operands (s.Both a b) c met = slice_set (slice_set met (key a c) true) (key b c) true
with_operands s.Empty c met = met
with_operands (s.Star a) c met = slice_set met (key a c) true
with_operands (s.At a d) c met = slice_set met (key a d) true

-- the marks of formulas, with those of an entry's parts under clock c
abbrev pub with_formulas : entryF.Formula → ℕ → List Bool → List Bool
with_formulas (f.Strong a) c met = met
with_formulas (f.Weak a) c met = met
with_formulas (f.StrongSequence a) c met = met
with_formulas (f.WeakSequence a) c met = met
with_formulas (f.Not a) c met = slice_set met (key a c) true
with_formulas (f.And a b) c met = slice_set (slice_set met (key a c) true) (key b c) true
with_formulas (f.Next a) c met = slice_set met (key a c) true
with_formulas (f.Until a b) c met = slice_set (slice_set met (key a c) true) (key b c) true
with_formulas (f.Abort a b) c met = slice_set met (key a c) true
with_formulas (f.Implies a b) c met = slice_set met (key b c) true
with_formulas (f.At a d) c met = slice_set met (key a d) true

-- the marks of sequences, with those of an entry's parts
abbrev pub with_sequences : entryF.Formula → ℕ → List Bool → List Bool
with_sequences (f.Strong a) c met = met
with_sequences (f.Weak a) c met = met
with_sequences (f.StrongSequence a) c met = slice_set met (key a c) true
with_sequences (f.WeakSequence a) c met = slice_set met (key a c) true
with_sequences (f.Not a) c met = met
with_sequences (f.And a b) c met = met
with_sequences (f.Next a) c met = met
with_sequences (f.Until a b) c met = met
with_sequences (f.Abort a b) c met = met
with_sequences (f.Implies a b) c met = slice_set met (key a c) true
with_sequences (f.At a d) c met = met

-- marks of formulas' pairs, and of sequences' pairs
pub record Marks : Type 0 where
  pub formulas : List Bool
  pub sequences : List Bool

-- marks as one
abbrev pub marks : List Bool → List Bool → Marks
marks fm sm = record { formulas = fm; sequences = sm }

-- the marks with those of a formula's parts, under clock c
abbrev pub with_parts : entryF.Formula → ℕ → Marks → Marks
with_parts e c m = record { formulas = with_formulas e c m.formulas; sequences = with_sequences e c m.sequences }

-- down from key n, each marked pair of a sequence marks those of its operands
unfoldable pub meet_sequences : List entryS.Sequence → ℕ → List Bool → List Bool
meet_sequences rs zero met = met
meet_sequences rs (suc k) met = meet_sequences rs k (cond (slice_index_or met k false) (with_operands (slice_index_or rs (k / 64) (s.Condition 0)) (k % 64) met) met)

-- down from key n, each marked pair of a formula marks those of its parts
unfoldable pub meet_formulas : List entryF.Formula → ℕ → Marks → Marks
meet_formulas fs zero m = m
meet_formulas fs (suc k) m = meet_formulas fs k (cond (slice_index_or m.formulas k false) (with_parts (slice_index_or fs (k / 64) (f.Strong 0)) (k % 64) m) m)

-- no pair is marked
abbrev pub unmarked : List Bool
unmarked = replicate 4096 false

-- the property with condition 0 is marked
abbrev pub root_marked : Property → Marks
root_marked p = record { formulas = slice_set unmarked (key (length (formulas_of p) - 1) 0) true; sequences = unmarked }

-- the pairs of formulas that are met, and those of sequences that they use
unfoldable pub formulas_met : Property → Marks
formulas_met p = meet_formulas (formulas_of p) (64 * length (formulas_of p)) (root_marked p)

-- the pairs that are met
unfoldable pub met : Property → Marks
met p =
    let m = formulas_met p in
    record { formulas = m.formulas; sequences = meet_sequences (sequences_of p) (64 * length (sequences_of p)) m.sequences }

-- each pair marked in the first is marked in the second
abbrev pub Within : List Bool → List Bool → Type 0
Within met other = (i c : ℕ) → c < 64 → Marked met i c → Marked other i c

-- marks only at conditions
abbrev pub Clocks : Property → List Bool → Type 0
Clocks p met = (i c : ℕ) → c < 64 → Marked met i c → c < length (conditions_of p)

-- the property with condition 0 is met, and with a pair those of its operands are met, under d beneath @d
pub record Closed (p : Property) (m : Marks) : Type 0 where
  pub root : Marked m.formulas (length (formulas_of p) - 1) 0
  pub formulas : FormulasClosed p m.formulas m.sequences
  pub sequences : SequencesClosed p m.sequences

-- and no other pair is
pub record LeastClosed (p : Property) (m : Marks) : Type 0 where
  pub closed : Closed p m
  pub formulas : (other : Marks) → Closed p other → Within m.formulas other.formulas
  pub sequences : (other : Marks) → Closed p other → Within m.sequences other.sequences
