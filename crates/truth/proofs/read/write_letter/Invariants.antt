use Rattle.std.proofs.Common.{◌≡◌, length, take}
use Rattle.letter.specs.Full.{means}
use Rattle.psl.specs.Named.{Like}
use Rattle.psl.specs.Syntax.{atom}
use Rattle.truth.specs.Rows.{letter_of, named}
use Rattle.truth.proofs.read.write_letter.Given as goal

abbrev pub invariant-loop-n : goal.invariant-loop-n
invariant-loop-n g l =
    Like atom (named (take l.n l.entries)) (letter_of l.own l.other) (means g.K.Kind.atoms g.K.Kind.mirrored l.letter)
    × (length l.own ≡ 33)
    × (length l.other ≡ 33)
