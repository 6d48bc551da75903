use Rattle.std.proofs.Common.{◌≤◌}
use Rattle.bits.specs.Member.{member}
use Rattle.automaton.specs.Parts.{clock_in, sequence_of}
use Rattle.automaton.proofs.Follow.{Followed, Found}
use Rattle.automaton.proofs.part.Part.follow.Given as goal

abbrev pub invariant-loop-place : goal.invariant-loop-place
invariant-loop-place l = record {
  order : l.lo ≤ l.place;
  followed : Followed l.truth.own.now l.truth.other.now (clock_in l.self) (sequence_of l.self) l.lo l.place l.starts.sets;
  found : Found l.truth.own.now l.truth.other.now (clock_in l.self) (sequence_of l.self) (member l.targets) l.lo l.place l.found;
}
