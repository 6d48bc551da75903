-- Parts whose states stand among those of the sequence that is followed.
use Rattle.std.specs.Prelude.{◌≡◌}
use Rattle.automaton.specs.declared.part.Part.{Part}
use Rattle.automaton.specs.declared.placed.Placed.{Placed}
use Rattle.automaton.specs.declared.view.View.{View}

-- the part is r, and its states stand as v tells
abbrev pub Stands : Placed → Part → View → Type 0
Stands w r v = (w.part ≡ r) × (w.view ≡ v)
