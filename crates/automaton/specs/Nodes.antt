-- What is known of the sequences of a table.
use Rattle.std.specs.Prelude.{◌≡◌, ℕ, ◌<◌, min, Bool, true, false, ◌&&◌, List, map, length, nat_lt, slice_index_or}
use Rattle.psl.specs.Syntax.{truth, atom, Sequence, condition, concat, fusion, either, both, empty, star, sequence_at}
use Rattle.psl.specs.Automaton.{states, null, live_start}
use Rattle.psl.specs.OptionalClock.{free, on}
use Rattle.psl.specs.declared.entry.Sequence as entry
use Rattle.psl.specs.declared.entry.Sequence.TheVariants as s
use Rattle.automaton.specs.declared.node.Node.{Node}
use Rattle.automaton.specs.Trees.{tree}

-- a number of states, as far as 241
abbrev pub capped : ℕ → ℕ
capped n = min n 241

-- the node tells of the sequence r
abbrev pub Facts : Sequence → Node → Type 0
Facts r n =
    (n.free ≡ capped (states free r)) × (n.clocked ≡ capped (states (on truth) r)) × (n.null ≡ null r) × (n.live ≡ live_start r)

-- a node that stands where there is none
abbrev pub blank : Node
blank = record { entry = s.Condition 0; free = 0; clocked = 0; null = false; live = false }

-- the nodes tell of the sequences rs
abbrev pub FactsBelow : List Sequence → List Node → Type 0
FactsBelow rs nodes = (j : ℕ) → j < length nodes → Facts (slice_index_or rs j empty) (slice_index_or nodes j blank)

-- the sequences that an entry names have numbers below i
abbrev pub lower : ℕ → entry.Sequence → Bool
lower i (s.Condition a) = true
lower i (s.Concat a b) = nat_lt a i && nat_lt b i
lower i (s.Fusion a b) = nat_lt a i && nat_lt b i
lower i (s.Either a b) = nat_lt a i && nat_lt b i
lower i (s.Both a b) = nat_lt a i && nat_lt b i
lower i s.Empty = true
lower i (s.Star a) = nat_lt a i
lower i (s.At a b) = nat_lt a i

-- each entry names only sequences with lower numbers
abbrev pub AllLower : List entry.Sequence → Type 0
AllLower es = (i : ℕ) → i < length es → lower i (slice_index_or es i (s.Condition 0)) ≡ true

-- the entries of the nodes
abbrev pub entries : List Node → List entry.Sequence
entries nodes = map (λ x. x.entry) nodes

-- what entry i denotes, over sequences with lower numbers
abbrev pub Shape : List entry.Sequence → ℕ → entry.Sequence → Type 0
Shape es i (s.Condition a) = tree es i ≡ condition (atom a)
Shape es i (s.Concat a b) = (a < i) × (b < i) × (tree es i ≡ concat (tree es a) (tree es b))
Shape es i (s.Fusion a b) = (a < i) × (b < i) × (tree es i ≡ fusion (tree es a) (tree es b))
Shape es i (s.Either a b) = (a < i) × (b < i) × (tree es i ≡ either (tree es a) (tree es b))
Shape es i (s.Both a b) = (a < i) × (b < i) × (tree es i ≡ both (tree es a) (tree es b))
Shape es i s.Empty = tree es i ≡ empty
Shape es i (s.Star a) = (a < i) × (tree es i ≡ star (tree es a))
Shape es i (s.At a b) = (a < i) × (tree es i ≡ sequence_at (tree es a) (atom b))
