use Rattle.std.proofs.Common.{◌≡◌, ◌+◌, ◌*◌, ◌≤◌}
use Rattle.form.specs.Grid.{cells_of}
use Rattle.form.specs.Pairs.{total}
use Rattle.form.proofs.count.count_added.Given as goal

abbrev pub invariant-loop-i : goal.invariant-loop-i
invariant-loop-i g l =
    (l.all.conditions ≡ total g.E.Adds.first g.E.Adds.adds_conditions l.entries (cells_of l.met) (64 * l.i))
    × (l.all.entries ≡ total g.E.Adds.first g.E.Adds.adds_entries l.entries (cells_of l.met) (64 * l.i))
    × (l.all.conditions ≤ 3 * (64 * l.i)) × (l.all.entries ≤ 7 * (64 * l.i))

abbrev pub invariant-loop-clock : goal.invariant-loop-clock
invariant-loop-clock g l =
    (l.all.conditions ≡ total g.E.Adds.first g.E.Adds.adds_conditions l.entries (cells_of l.met) (64 * l.i + l.clock))
    × (l.all.entries ≡ total g.E.Adds.first g.E.Adds.adds_entries l.entries (cells_of l.met) (64 * l.i + l.clock))
    × (l.all.conditions ≤ 3 * (64 * l.i + l.clock)) × (l.all.entries ≤ 7 * (64 * l.i + l.clock))
