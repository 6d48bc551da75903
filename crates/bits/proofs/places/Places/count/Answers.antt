use Rattle.std.proofs.Common.{◌≡◌, ℕ, ◌+◌, ◌*◌, ◌^◌, ◌<◌, get_or, sym, ap, ◌∙◌, arith}
use Rattle.std.proofs.lemmas.Nat.{ones-le}
use lib.Count.{ones}
use Rattle.bits.specs.Words.{in_words}
use Rattle.bits.specs.Member.{member, count_below}
use Rattle.bits.proofs.Counted.{count_word}
use Rattle.bits.proofs.places.Places.count.Goals as goal

pub loop-word-preserved : goal.loop-word-preserved
loop-word-preserved c =
    let ws = c.args.self.now.words in
    let i = c.loop-word.word-index in
    let short : get_or ws i 0 < 2 ^ 64 = omega arith in
    let next : 64 * (i + 1) ≡ i * 64 + 64 = omega arith in
    let here : 64 * i ≡ i * 64 = omega arith in (
      ap (λ (z : ℕ). z + ones (get_or ws i 0)) (c.loop-word.invariant.0 ∙ ap (count_below (in_words 64 ws)) here)
          ∙ sym (count_word 64 ws i short)
          ∙ ap (count_below (in_words 64 ws)) (sym next),
      omega (arith, ones-le 64 (get_or ws i 0) short, c.loop-word.invariant.1),
    )

pub returns : goal.returns
returns c =
    let e : 64 * c.loop-word.word-index ≡ 576 = omega arith in
    record { value = c.loop-word.invariant.0 ∙ ap (count_below (member c.args.self.now)) e; few = omega (arith, e, c.loop-word.invariant.1) }
