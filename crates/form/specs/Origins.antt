-- Where the parts of a form come from: the images of the property's sequences and formulas.
use Rattle.std.specs.Prelude.{◌≡◌, ◌≤◌}
use Rattle.psl.specs.Syntax.{Condition, Sequence, Formula, strong, weak, strong_sequence, weak_sequence, negated, conjoined, next, until, abort, implies, formula_at}
use Rattle.psl.specs.Table.{size}
use Rattle.psl.specs.Removal.{unclock_sequence}
use Rattle.psl.specs.Images.{Image}

-- the sequence is the image of one of size at most 240
abbrev pub SmallImage : Sequence → Type 0
SmallImage s = (c : Condition) × (r : Sequence) × (size r ≤ 240) × (s ≡ unclock_sequence c r)

-- each sequence that the formula uses is the image of one of size at most 240, each abort's operand is the image of a formula, and there is no @
abbrev pub FromImages : Formula → Type 0
FromImages (strong b) = Unit {0}
FromImages (weak b) = Unit {0}
FromImages (strong_sequence r) = SmallImage r
FromImages (weak_sequence r) = SmallImage r
FromImages (negated f) = FromImages f
FromImages (conjoined f g) = FromImages f × FromImages g
FromImages (next f) = FromImages f
FromImages (until f g) = FromImages f × FromImages g
FromImages (abort f b) = FromImages f × Image f
FromImages (implies r f) = SmallImage r × FromImages f
FromImages (formula_at f d) = ⊥

-- each sequence that the formula uses has a size of at most 240
abbrev pub Sized : Formula → Type 0
Sized (strong b) = Unit {0}
Sized (weak b) = Unit {0}
Sized (strong_sequence r) = size r ≤ 240
Sized (weak_sequence r) = size r ≤ 240
Sized (negated f) = Sized f
Sized (conjoined f g) = Sized f × Sized g
Sized (next f) = Sized f
Sized (until f g) = Sized f × Sized g
Sized (abort f b) = Sized f
Sized (implies r f) = (size r ≤ 240) × Sized f
Sized (formula_at f d) = Sized f
