-- How the five bytes of an entry spell it: its kind, operand A and operand B.
use Rattle.std.specs.Prelude.{ℕ, ◌+◌, ◌*◌, cond, ◌&&◌, List, [], ◌∷◌, Some, None, Option, ◌==◌, slice_index_or}
use Rattle.file.specs.declared.raw.Raw.{Raw}
use Rattle.psl.specs.declared.entry.Condition.{Condition}
use Rattle.psl.specs.declared.entry.Condition.TheVariants as c
use Rattle.psl.specs.declared.entry.Sequence.{Sequence}
use Rattle.psl.specs.declared.entry.Sequence.TheVariants as s
use Rattle.psl.specs.declared.entry.Formula.{Formula}
use Rattle.psl.specs.declared.entry.Formula.TheVariants as f

-- an entry as it stands in the file
abbrev pub raw : ℕ → ℕ → ℕ → Raw
raw kind a b = record { kind = kind; a = a; b = b }

-- two bytes are one number, the most significant first
abbrev pub wide_number : ℕ → ℕ → ℕ
wide_number high low = high * 256 + low

-- the entry, if both operands, which it does not use, are 0
abbrev pub without_operands : {E : Type 0} → ℕ → ℕ → E → Option E
without_operands a b e = cond (a == 0 && b == 0) (Some e) None

-- the entry, if operand B, which it does not use, is 0
abbrev pub without_b : {E : Type 0} → ℕ → E → Option E
without_b b e = cond (b == 0) (Some e) None

-- the kinds of conditions in the order of their numbers, over operands A and B
abbrev pub condition_kinds : ℕ → ℕ → List (Option Condition)
condition_kinds a b =
    without_operands a b c.True ∷ without_operands a b c.False ∷ without_b b (c.Atom a) ∷ without_b b (c.Not a) ∷ Some (c.And a b) ∷ []

-- the kinds of sequences
abbrev pub sequence_kinds : ℕ → ℕ → List (Option Sequence)
sequence_kinds a b =
    without_b b (s.Condition a) ∷ Some (s.Concat a b) ∷ Some (s.Fusion a b) ∷ Some (s.Either a b) ∷ Some (s.Both a b)
    ∷ without_operands a b s.Empty ∷ without_b b (s.Star a) ∷ Some (s.At a b) ∷ []

-- the kinds of formulas
abbrev pub formula_kinds : ℕ → ℕ → List (Option Formula)
formula_kinds a b =
    without_b b (f.Strong a) ∷ without_b b (f.Weak a) ∷ without_b b (f.StrongSequence a) ∷ without_b b (f.WeakSequence a)
    ∷ without_b b (f.Not a) ∷ Some (f.And a b) ∷ without_b b (f.Next a) ∷ Some (f.Until a b)
    ∷ Some (f.Abort a b) ∷ Some (f.Implies a b) ∷ Some (f.At a b) ∷ []

-- the entry that is spelled, if its kind is listed and each unused operand is 0
abbrev pub condition_spelled : Raw → Option Condition
condition_spelled x = slice_index_or (condition_kinds x.a x.b) x.kind None

abbrev pub sequence_spelled : Raw → Option Sequence
sequence_spelled x = slice_index_or (sequence_kinds x.a x.b) x.kind None

abbrev pub formula_spelled : Raw → Option Formula
formula_spelled x = slice_index_or (formula_kinds x.a x.b) x.kind None
