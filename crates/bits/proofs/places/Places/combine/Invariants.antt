use Rattle.std.proofs.Common.{◌≡◌, length}
use Rattle.bits.proofs.Sets.{MadeBy}
use Rattle.bits.proofs.places.Places.combine.Given as goal

abbrev pub invariant-loop-i : goal.invariant-loop-i
invariant-loop-i g l = (length l.self.words ≡ 9) × MadeBy (goal.F-post g l.f) l.i l.initial.self.words l.other.words l.self.words
