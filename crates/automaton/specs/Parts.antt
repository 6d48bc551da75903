-- Parts of sequences: what each denotes, and what it is made of.
use Rattle.std.specs.Prelude.{◌≡◌, ℕ, ◌<◌, ◌≤◌}
use Rattle.psl.specs.Syntax.{atom, Sequence, condition, concat, fusion, either, both, star, sequence_at}
use Rattle.psl.specs.Automaton.{states}
use Rattle.psl.specs.OptionalClock.{Clock, free, on}
use Rattle.automaton.specs.declared.part.Part.{Part}
use Rattle.automaton.specs.declared.part.Shape as code
use Rattle.automaton.specs.declared.part.Shape.TheVariants.{Stateless, Free, Clocked, Concat, Fusion, Either, Both, Star, At}
use Rattle.automaton.specs.Automata.{entries_of}
use Rattle.automaton.specs.Clocks.{clock_of}
use Rattle.automaton.specs.Trees.{tree}

-- the clock in force
abbrev pub clock_in : Part → Clock
clock_in p = clock_of p.clock

-- the sequence
abbrev pub sequence_of : Part → Sequence
sequence_of p = tree (entries_of p.automata.now) p.number

-- how many states it has
abbrev pub size : Part → ℕ
size p = states (clock_in p) (sequence_of p)

-- an operand of p: its number is lower, and the clock the same
abbrev pub Operand : Part → Part → Type 0
Operand p r = (r.number < p.number) × (r.clock ≡ p.clock)

-- what p is made of
abbrev pub ShapeOf : Part → code.Shape → Type 0
ShapeOf p Stateless = size p ≡ 0
ShapeOf p (Free b) = (clock_in p ≡ free) × (sequence_of p ≡ condition (atom b))
ShapeOf p (Clocked c b) = (clock_in p ≡ on (atom c)) × (sequence_of p ≡ condition (atom b))
ShapeOf p (Concat r s) = Operand p r × Operand p s × (sequence_of p ≡ concat (sequence_of r) (sequence_of s))
ShapeOf p (Fusion r s) = Operand p r × Operand p s × (sequence_of p ≡ fusion (sequence_of r) (sequence_of s))
ShapeOf p (Either r s) = Operand p r × Operand p s × (sequence_of p ≡ either (sequence_of r) (sequence_of s))
ShapeOf p (Both r s) = Operand p r × Operand p s × (sequence_of p ≡ both (sequence_of r) (sequence_of s)) × (1 ≤ size p)
ShapeOf p (Star r) = Operand p r × (sequence_of p ≡ star (sequence_of r))
ShapeOf p (At r d) = (r.number < p.number) × (clock_in r ≡ on (atom d)) × (sequence_of p ≡ sequence_at (sequence_of r) (atom d))
