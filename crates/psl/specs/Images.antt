-- The shapes that clock removal gives.
use Rattle.std.specs.Prelude.{◌≡◌, Bool, true, false, ◌&&◌, ◌||◌, T}
use Rattle.psl.specs.Syntax.{Condition, Sequence, condition, concat, fusion, either, both, empty, star, sequence_at, Formula, strong, weak}
use Rattle.psl.specs.Syntax.{strong_sequence, weak_sequence, negated, conjoined, next, until, abort, implies, formula_at}
use Rattle.psl.specs.Removal.{unclock}

-- the sequence is a condition
abbrev pub is_condition : Sequence → Bool
is_condition (condition b) = true
is_condition (concat r s) = false
is_condition (fusion r s) = false
is_condition (either r s) = false
is_condition (both r s) = false
is_condition empty = false
is_condition (star r) = false
is_condition (sequence_at r d) = false

-- the sequence is a condition repeated: {a}[*]
abbrev pub is_wait : Sequence → Bool
is_wait (condition b) = false
is_wait (concat r s) = false
is_wait (fusion r s) = false
is_wait (either r s) = false
is_wait (both r s) = false
is_wait empty = false
is_wait (star r) = is_condition r
is_wait (sequence_at r d) = false

-- each condition b of the sequence stands as {a}[*];{b}, and there is no @
abbrev pub ticked : Sequence → Bool
ticked (condition b) = false
ticked (concat r s) = (is_wait r && is_condition s) || (ticked r && ticked s)
ticked (fusion r s) = ticked r && ticked s
ticked (either r s) = ticked r && ticked s
ticked (both r s) = ticked r && ticked s
ticked empty = true
ticked (star r) = ticked r
ticked (sequence_at r d) = false

-- some clock was written into some formula, and this is what came of it
abbrev pub Image : Formula → Type 0
Image f = (c : Condition) × (g : Formula) × (f ≡ unclock c g)

-- the sequences are ticked, the operands of aborts are images, and there is no @
abbrev pub Tame : Formula → Type 0
Tame (strong b) = Unit {0}
Tame (weak b) = Unit {0}
Tame (strong_sequence r) = T (ticked r)
Tame (weak_sequence r) = T (ticked r)
Tame (negated f) = Tame f
Tame (conjoined f g) = Tame f × Tame g
Tame (next f) = Tame f
Tame (until f g) = Tame f × Tame g
Tame (abort f b) = Tame f × Image f
Tame (implies r f) = T (ticked r) × Tame f
Tame (formula_at f d) = ⊥
