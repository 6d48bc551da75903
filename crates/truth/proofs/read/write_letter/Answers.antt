use Rattle.std.proofs.Common.{get_or, ap, ◌∙◌, arith}
use Rattle.letter.specs.Full.{means}
use Rattle.psl.specs.Letter.{satisfies}
use Rattle.psl.specs.Syntax.{falsity}
use Rattle.psl.specs.declared.entry.Condition.TheVariants.{True}
use Rattle.truth.specs.Cell.{worked}
use Rattle.truth.proofs.Conditions.{like_filled, like_more}
use Rattle.truth.proofs.read.write_letter.Goals as goal

pub loop-n-init : goal.loop-n-init
loop-n-init g c = (
  like_filled (means g.K.Kind.atoms g.K.Kind.mirrored c.args.letter.now) c.fill.new.row c.fill-2.new.row _ _ _ _
      c.requires.len c.requires.len_other c.is_top.ensures.value (c.is_top-2.ensures.value ∙ ap (λ m. satisfies m falsity) c.mirror-mirror.ensures.value)
      c.fill.ensures.items c.fill-2.ensures.items,
  c.fill.ensures.len ∙ c.requires.len,
  c.fill-2.ensures.len ∙ c.requires.len_other,
)

pub loop-n-preserved : goal.loop-n-preserved
loop-n-preserved g c =
    let l = means g.K.Kind.atoms g.K.Kind.mirrored c.args.letter.now in
    let es = c.args.entries.now in
    let n = c.loop-n.n in (
      like_more l es n True c.loop-n.own c.loop-n.other c.put.new.row c.put-in-loop-n.new.row c.cell-flag.result c.cell-mirror_flag.result
          c.requires.few c.loop-n-test.true c.cell-flag.ensures.value
          (c.cell-mirror_flag.ensures.value ∙ ap (λ m. worked m c.loop-n.other c.loop-n.own (get_or es n True)) c.mirror-mirror.ensures.value)
          (c.put.ensures.items (omega arith)) (c.put-in-loop-n.ensures.items (omega arith)) c.loop-n.invariant.0,
      c.put.ensures.len ∙ c.loop-n.invariant.1,
      c.put-in-loop-n.ensures.len ∙ c.loop-n.invariant.2,
    )
