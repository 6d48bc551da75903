-- What the operands of an entry may name: an atom, a condition, a sequence, or a lower entry of its own section.
use Rattle.std.specs.Prelude.{ℕ, Bool, true, false, ◌&&◌, nat_lt}
use Rattle.psl.specs.declared.entry.Condition.{Condition}
use Rattle.psl.specs.declared.entry.Condition.TheVariants as c
use Rattle.psl.specs.declared.entry.Sequence.{Sequence}
use Rattle.psl.specs.declared.entry.Sequence.TheVariants as s
use Rattle.psl.specs.declared.entry.Formula.{Formula}
use Rattle.psl.specs.declared.entry.Formula.TheVariants as f

-- condition i names an atom below 32, or lower conditions
abbrev pub condition_names : ℕ → Condition → Bool
condition_names i c.True = true
condition_names i c.False = true
condition_names i (c.Atom n) = nat_lt n 32
condition_names i (c.Not a) = nat_lt a i
condition_names i (c.And a b) = nat_lt a i && nat_lt b i

-- sequence i names lower sequences, and conditions, of which there are n
abbrev pub sequence_names : ℕ → ℕ → Sequence → Bool
sequence_names n i (s.Condition a) = nat_lt a n
sequence_names n i (s.Concat a b) = nat_lt a i && nat_lt b i
sequence_names n i (s.Fusion a b) = nat_lt a i && nat_lt b i
sequence_names n i (s.Either a b) = nat_lt a i && nat_lt b i
sequence_names n i (s.Both a b) = nat_lt a i && nat_lt b i
sequence_names n i s.Empty = true
sequence_names n i (s.Star a) = nat_lt a i
sequence_names n i (s.At a b) = nat_lt a i && nat_lt b n

-- formula i names lower formulas, and conditions and sequences, of which there are n and m
abbrev pub formula_names : ℕ → ℕ → ℕ → Formula → Bool
formula_names n m i (f.Strong a) = nat_lt a n
formula_names n m i (f.Weak a) = nat_lt a n
formula_names n m i (f.StrongSequence a) = nat_lt a m
formula_names n m i (f.WeakSequence a) = nat_lt a m
formula_names n m i (f.Not a) = nat_lt a i
formula_names n m i (f.And a b) = nat_lt a i && nat_lt b i
formula_names n m i (f.Next a) = nat_lt a i
formula_names n m i (f.Until a b) = nat_lt a i && nat_lt b i
formula_names n m i (f.Abort a b) = nat_lt a i && nat_lt b n
formula_names n m i (f.Implies a b) = nat_lt a m && nat_lt b i
formula_names n m i (f.At a b) = nat_lt a i && nat_lt b n

-- the condition is the one of kind true
abbrev pub is_true : Condition → Bool
is_true c.True = true
is_true c.False = false
is_true (c.Atom n) = false
is_true (c.Not a) = false
is_true (c.And a b) = false
