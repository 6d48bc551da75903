use Rattle.std.proofs.Common.{◌≡◌, ◌+◌, ◌≤◌, length, get_or, ◌∙◌, ap₂, arith, length-drop, rules}
use Rattle.std.proofs.lemmas.List.{take_rest}
use Rattle.file.specs.Kinds.{raw}
use Rattle.file.proofs.Entries.{took, goes_on}
use Rattle.file.proofs.fill.fill.Goals as goal

pub loop-rest-preserved : goal.loop-rest-preserved
loop-rest-preserved g c =
    let xs = c.loop-rest.rest.now in
    let long : 5 ≤ length xs = search rules in
    let same = ap₂ (λ a b. raw (get_or xs 0 0) a b) c.wide.ensures c.wide-in-len5-up.ensures in
    let before = g.F.Filling.filled c.loop-rest.table in
    let after = g.F.Filling.filled c.take_entry.new.self in
    let turn = goes_on (g.F.Filling.rules c.args.table) c.args.section c.loop-rest.offset before after xs _ _ _ c.loop-rest.invariant.2 long same (took _ _ _ _ _ c.take_entry.result c.in_ok-map_err.ensures.variant c.take_entry.ensures) in
    let more : length after ≡ length before + 1 = turn.0 in (
      rw (take_rest xs 5) (simp length-drop (omega arith)),
      rw (take_rest xs 5) (simp length-drop (omega arith)),
      turn.1,
      turn.2 ∙ c.loop-rest.invariant.3,
      turn.3 ∙ c.loop-rest.invariant.4,
    )
