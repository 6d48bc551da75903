-- Conditions, sequences and formulas as trees.
use Rattle.std.specs.Prelude.{ℕ}

-- true, false, an atom by its number, not b, b and c
pub data Condition : Type 0 where
  truth falsity : Condition
  atom : ℕ → Condition
  negation : Condition → Condition
  conjunction : Condition → Condition → Condition
  deriving Discrete as Condition-discrete

-- b; r;s, r:s, r|s, r&&s; [*0]; r[*]; r@d
pub data Sequence : Type 0 where
  condition : Condition → Sequence
  concat fusion either both : Sequence → Sequence → Sequence
  empty : Sequence
  star : Sequence → Sequence
  sequence_at : Sequence → Condition → Sequence
  deriving Discrete as Sequence-discrete

-- b! and b; r! and r; not f; f and g; X! f; f U g; f abort b; r |-> f; f@d
pub data Formula : Type 0 where
  strong weak : Condition → Formula
  strong_sequence weak_sequence : Sequence → Formula
  negated : Formula → Formula
  conjoined : Formula → Formula → Formula
  next : Formula → Formula
  until : Formula → Formula → Formula
  abort : Formula → Condition → Formula
  implies : Sequence → Formula → Formula
  formula_at : Formula → Condition → Formula
  deriving Discrete as Formula-discrete
