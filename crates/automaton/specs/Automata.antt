-- What the automata of a table are of.
use Rattle.std.specs.Prelude.{ℕ, List}
use Rattle.psl.specs.declared.entry.Sequence as entry
use Rattle.automaton.specs.declared.automata.Automata.{Automata}
use Rattle.automaton.specs.declared.node.Node.{Node}
use Rattle.table.specs.Rows.{rows_of}
use Rattle.automaton.specs.Nodes.{entries, Facts, Shape}
use Rattle.automaton.specs.Trees.{tree}

-- the entries that they were made from
unfoldable pub entries_of : Automata → List entry.Sequence
entries_of a = entries (rows_of a.nodes)

-- the node tells of sequence i, whose parts have lower numbers
pub record Known (es : List entry.Sequence) (i : ℕ) (n : Node) : Type 0 where
  pub facts : Facts (tree es i) n
  pub shape : Shape es i n.entry
