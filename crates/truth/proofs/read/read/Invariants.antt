use Rattle.std.proofs.Common.{◌≡◌, map, take}
use Rattle.letter.specs.Full.{means}
use Rattle.psl.specs.Named.{Likes}
use Rattle.psl.specs.Syntax.{atom}
use Rattle.truth.specs.Rows.{named, word}
use Rattle.truth.proofs.read.read.Given as goal

abbrev pub invariant-loop-k : goal.invariant-loop-k
invariant-loop-k g l =
    Likes atom (named l.entries) (word l.own l.other 0 l.k)
    (map (means g.R.Letter.Kind.atoms g.R.Letter.Kind.mirrored) (take l.k (g.R.Record.content l.initial.record).letters))
    × (l.record ≡ l.initial.record)
