-- How tables of entries denote trees; the size of a sequence.
use Rattle.std.specs.Prelude.{ℕ, ◌+◌, ◌*◌, List, [], ◌∷◌, ◌++◌, slice_index_or}
use Rattle.psl.specs.Syntax.{Condition, truth, falsity, atom, negation, conjunction}
use Rattle.psl.specs.Syntax.{Sequence, condition, concat, fusion, either, both, empty, star, sequence_at}
use Rattle.psl.specs.Syntax.{Formula, strong, weak, strong_sequence, weak_sequence, negated, conjoined, next, until, abort, implies, formula_at}
use Rattle.psl.specs.declared.entry.Condition as entryC
use Rattle.psl.specs.declared.entry.Condition.TheVariants as c
use Rattle.psl.specs.declared.entry.Sequence as entryS
use Rattle.psl.specs.declared.entry.Sequence.TheVariants as s
use Rattle.psl.specs.declared.entry.Formula as entryF
use Rattle.psl.specs.declared.entry.Formula.TheVariants as f

-- the trees of a table's entries from the left, each built over the trees of the entries that stand before it
abbrev pub grow : {E T : Type 0} → (List T → E → T) → List T → List E → List T
grow build earlier [] = earlier
grow build earlier (e ∷ entries) = grow build (earlier ++ (build earlier e ∷ [])) entries

-- the condition that an entry denotes, over the conditions before it
abbrev pub condition_of : List Condition → entryC.Condition → Condition
condition_of cs c.True = truth
condition_of cs c.False = falsity
condition_of cs (c.Atom n) = atom n
condition_of cs (c.Not a) = negation (slice_index_or cs a falsity)
condition_of cs (c.And a b) = conjunction (slice_index_or cs a falsity) (slice_index_or cs b falsity)

-- the sequence that an entry denotes, over the conditions and the sequences before it
abbrev pub sequence_of : List Condition → List Sequence → entryS.Sequence → Sequence
sequence_of cs rs (s.Condition a) = condition (slice_index_or cs a falsity)
sequence_of cs rs (s.Concat a b) = concat (slice_index_or rs a empty) (slice_index_or rs b empty)
sequence_of cs rs (s.Fusion a b) = fusion (slice_index_or rs a empty) (slice_index_or rs b empty)
sequence_of cs rs (s.Either a b) = either (slice_index_or rs a empty) (slice_index_or rs b empty)
sequence_of cs rs (s.Both a b) = both (slice_index_or rs a empty) (slice_index_or rs b empty)
sequence_of cs rs s.Empty = empty
sequence_of cs rs (s.Star a) = star (slice_index_or rs a empty)
sequence_of cs rs (s.At a b) = sequence_at (slice_index_or rs a empty) (slice_index_or cs b falsity)

-- the formula that stands where a table has none (a condition there is falsity, a sequence is [*0]): false!
abbrev pub nothing : Formula
nothing = strong falsity

-- the formula that an entry denotes, over the conditions, the sequences and the formulas before it
abbrev pub formula_of : List Condition → List Sequence → List Formula → entryF.Formula → Formula
formula_of cs rs fs (f.Strong a) = strong (slice_index_or cs a falsity)
formula_of cs rs fs (f.Weak a) = weak (slice_index_or cs a falsity)
formula_of cs rs fs (f.StrongSequence a) = strong_sequence (slice_index_or rs a empty)
formula_of cs rs fs (f.WeakSequence a) = weak_sequence (slice_index_or rs a empty)
formula_of cs rs fs (f.Not a) = negated (slice_index_or fs a nothing)
formula_of cs rs fs (f.And a b) = conjoined (slice_index_or fs a nothing) (slice_index_or fs b nothing)
formula_of cs rs fs (f.Next a) = next (slice_index_or fs a nothing)
formula_of cs rs fs (f.Until a b) = until (slice_index_or fs a nothing) (slice_index_or fs b nothing)
formula_of cs rs fs (f.Abort a b) = abort (slice_index_or fs a nothing) (slice_index_or cs b falsity)
formula_of cs rs fs (f.Implies a b) = implies (slice_index_or rs a empty) (slice_index_or fs b nothing)
formula_of cs rs fs (f.At a b) = formula_at (slice_index_or fs a nothing) (slice_index_or cs b falsity)

-- the conditions of a table
unfoldable pub conditions : List entryC.Condition → List Condition
conditions entries = grow condition_of [] entries

-- the sequences of a table, over its conditions
unfoldable pub sequences : List Condition → List entryS.Sequence → List Sequence
sequences cs entries = grow (sequence_of cs) [] entries

-- the formulas of a table, over its conditions and sequences
unfoldable pub formulas : List Condition → List Sequence → List entryF.Formula → List Formula
formulas cs rs entries = grow (formula_of cs rs) [] entries

-- the size of a sequence
abbrev pub size : Sequence → ℕ
size (condition b) = 2
size (concat r s) = size r + size s
size (fusion r s) = size r + size s + size r * size s
size (either r s) = size r + size s
size (both r s) = size r * size s
size empty = 0
size (star r) = size r
size (sequence_at r d) = size r
