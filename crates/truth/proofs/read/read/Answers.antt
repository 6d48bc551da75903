use Rattle.std.proofs.Common.{◌≡◌, ◌+◌, ◌<◌, map, length, take, Some, rules, sym, ap, ◌∙◌, subst, ap₂, arith}
use Rattle.std.specs.List.{slice_get}
use Rattle.letter.specs.Full.{means}
use Rattle.psl.specs.Named.{Likes}
use Rattle.psl.specs.Syntax.{atom}
use Rattle.truth.specs.Rows.{named, word}
use Rattle.truth.proofs.Letters.{likes_more}
use Rattle.truth.proofs.read.read.Goals as goal
use Rattle.truth.proofs.read.read.Goals.{in-Ok, in_default}

pub loop-k-preserved : goal.loop-k-preserved
loop-k-preserved g c =
    let content = g.R.Record.content in
    let m = means g.R.Letter.Kind.atoms g.R.Letter.Kind.mirrored in
    let f = named c.args.entries.now in
    let xs = (content c.count-count.new.self).letters in
    let k = c.loop-k.k in
    let long : length xs ≡ c.count-count.result = ap (λ r. length (content r).letters) c.count-count.ensures.same ∙ sym c.count-count.ensures.value in
    let within : k < length xs = omega (arith, long) in (
      elim c.match-letter.branch [
        | in-Ok w ↦
            let at : slice_get xs k ≡ Some w.in-Ok.letter = search rules in
            subst (λ y. Likes atom f y (map m (take (k + 1) xs))) (sym (ap₂ (λ u v. word u v 0 (k + 1)) w.own-is w.other-is))
            (likes_more f m xs c.loop-k.own c.loop-k.other w.write_place.new.own w.write_place.new.other k w.in-Ok.letter within at
            w.write_place.ensures.same w.write_place.ensures.same_other w.write_place.ensures.items c.loop-k.invariant.0)
        | in_default w ↦ absurd (let no : ⊥ = search rules in no)
      ],
      c.letter.ensures.same ∙ c.loop-k.invariant.1,
    )
