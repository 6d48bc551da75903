-- The trees of a table of sequences, with conditions by name.
use Rattle.std.specs.Prelude.{ℕ, List, [], slice_index_or}
use Rattle.psl.specs.Syntax.{atom, Sequence, condition, concat, fusion, either, both, empty, star, sequence_at}
use Rattle.psl.specs.Table.{grow}
use Rattle.psl.specs.declared.entry.Sequence as entry
use Rattle.psl.specs.declared.entry.Sequence.TheVariants as s

-- the sequence that an entry denotes, over the sequences before it
abbrev pub named_sequence_of : List Sequence → entry.Sequence → Sequence
named_sequence_of rs (s.Condition a) = condition (atom a)
named_sequence_of rs (s.Concat a b) = concat (slice_index_or rs a empty) (slice_index_or rs b empty)
named_sequence_of rs (s.Fusion a b) = fusion (slice_index_or rs a empty) (slice_index_or rs b empty)
named_sequence_of rs (s.Either a b) = either (slice_index_or rs a empty) (slice_index_or rs b empty)
named_sequence_of rs (s.Both a b) = both (slice_index_or rs a empty) (slice_index_or rs b empty)
named_sequence_of rs s.Empty = empty
named_sequence_of rs (s.Star a) = star (slice_index_or rs a empty)
named_sequence_of rs (s.At a b) = sequence_at (slice_index_or rs a empty) (atom b)

-- the sequences of a table
unfoldable pub named_sequences : List entry.Sequence → List Sequence
named_sequences es = grow named_sequence_of [] es

-- sequence i of a table; [*0] where there is none
abbrev pub tree : List entry.Sequence → ℕ → Sequence
tree es i = slice_index_or (named_sequences es) i empty
