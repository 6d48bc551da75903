use Rattle.std.proofs.Common.{◌≡◌, ◌+◌, ◌*◌, ◌≤◌, ◌++◌, length}
use Rattle.answer.specs.Questions.{first_no}
use Rattle.file.specs.File.{raws, about_entries, spelled}
use Rattle.file.proofs.fill.fill.Given as goal

-- what is left to read decides as all of it does, and completes the same table
abbrev pub invariant-loop-rest : goal.invariant-loop-rest
invariant-loop-rest g l =
    let rules = g.F.Filling.rules l.initial.table in
    (5 * length (g.F.Filling.filled l.table) + length l.rest ≤ 320)
    × (l.offset + length l.rest ≤ 1320)
    × (g.F.Filling.rules l.table ≡ rules)
    × (first_no (about_entries rules l.section l.offset (g.F.Filling.filled l.table) (raws l.rest))
    ≡ first_no (about_entries rules l.section l.initial.offset (g.F.Filling.filled l.initial.table) (raws l.initial.rest)))
    × (g.F.Filling.filled l.table ++ spelled rules (raws l.rest) ≡ g.F.Filling.filled l.initial.table ++ spelled rules (raws l.initial.rest))

abbrev pub decreases-loop-rest : goal.decreases-loop-rest
decreases-loop-rest g l = length l.rest
