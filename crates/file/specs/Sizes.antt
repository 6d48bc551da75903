-- The sizes of the sequences of a table: how many states their automata have.
use Rattle.std.specs.Prelude.{ℕ, ◌+◌, ◌*◌, List, [], slice_index}
use Rattle.psl.specs.Table.{grow}
use Rattle.psl.specs.declared.entry.Sequence.{Sequence}
use Rattle.psl.specs.declared.entry.Sequence.TheVariants as s

-- the size of an entry, over the sizes of the entries before it
abbrev pub size_over : List ℕ → Sequence → ℕ
size_over z (s.Condition a) = 2
size_over z (s.Concat a b) = slice_index z a + slice_index z b
size_over z (s.Fusion a b) = slice_index z a + slice_index z b + slice_index z a * slice_index z b
size_over z (s.Either a b) = slice_index z a + slice_index z b
size_over z (s.Both a b) = slice_index z a * slice_index z b
size_over z s.Empty = 0
size_over z (s.Star a) = slice_index z a
size_over z (s.At a b) = slice_index z a

-- the size of each entry
unfoldable pub sizes : List Sequence → List ℕ
sizes es = grow size_over [] es
