-- How a letter moves a set of states, and what has ended in it.
use Rattle.std.specs.Prelude.{Bool, ◌&&◌, ◌||◌}
use Rattle.psl.specs.Syntax.{Sequence}
use Rattle.psl.specs.Letter.{Letter}
use Rattle.psl.specs.Automaton.{State, final, init, step, any}
use Rattle.psl.specs.OptionalClock.{Clock}

-- the states after the letter, from the states S, and from the start too if it is entered
abbrev pub moved : (k : Clock) → (r : Sequence) → Letter → Bool → (State k r → Bool) → State k r → Bool
moved k r l entered S q = (entered && init k r l q) || any k r (λ p. S p && step k r l p q)

-- a match may end in one of the states S
abbrev pub ended : (k : Clock) → (r : Sequence) → (State k r → Bool) → Bool
ended k r S = any k r (λ p. S p && final k r p)
