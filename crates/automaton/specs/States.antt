-- States of sequences, by number.
use Rattle.std.specs.Prelude.{◌≡◌, ℕ, ◌-◌, ◌<◌, ◌≤◌}
use Rattle.automaton.specs.declared.part.Part.{Part}
use Rattle.automaton.specs.declared.state.State.{State}
use Rattle.automaton.specs.declared.state.Half as code
use Rattle.automaton.specs.declared.state.Half.TheVariants.{First, Second}
use Rattle.automaton.specs.Parts.{size}

-- state n of r
abbrev pub IsState : State → Part → ℕ → Type 0
IsState p r n = (p.part ≡ r) × (p.number ≡ n)

-- p as a state of r, or of s, whose states stand behind those of r
abbrev pub HalfOf : State → Part → Part → code.Half → Type 0
HalfOf p r s (First q) = IsState q r p.number × (p.number < size r)
HalfOf p r s (Second q) = IsState q s (p.number - size r) × (size r ≤ p.number)
