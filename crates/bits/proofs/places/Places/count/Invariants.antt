use Rattle.std.proofs.Common.{◌≡◌, ◌*◌, ◌≤◌}
use Rattle.bits.specs.Member.{member, count_below}
use Rattle.bits.proofs.places.Places.count.Given as goal

abbrev pub invariant-loop-word : goal.invariant-loop-word
invariant-loop-word l = (l.count ≡ count_below (member l.self) (64 * l.word-index)) × (l.count ≤ 64 * l.word-index)
