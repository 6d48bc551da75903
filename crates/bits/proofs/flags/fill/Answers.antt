use Rattle.std.proofs.Common.{◌≡◌, ℕ, ◌*◌, ◌%◌, ◌&&◌, ltb, length, ap, ◌∙◌, replicate, arith}
use Rattle.std.proofs.lemmas.Bool.{lt-ltb}
use Rattle.std.proofs.lemmas.List.{get_or-replicate, length-replicate}
use Rattle.bits.specs.Flags.{flagged}
use Rattle.bits.proofs.Sets.{in_written}
use Rattle.bits.proofs.flags.fill.Goals as goal

pub returns-clause-items : goal.returns-clause-items
returns-clause-items c j =
    let flag = c.args.flag in
    let byte = c.uniform.result in
    let n = length c.args.row.now in
    ap (λ row. flagged row j) (c.fill.ensures.after (λ y same. same))
    ∙ in_written 8 (λ _. byte) (replicate n byte) n (omega arith) (omega (arith, length-replicate n byte)) (λ q h. get_or-replicate n q byte 0 h)
    (λ _. flag) (λ j. c.uniform.ensures.items (j % 8) ∙ ap (λ b. b && flag) (lt-ltb (j % 8) 8 (omega arith))) j
    ∙ ap (λ (z : ℕ). ltb j z && flag) (let e : n * 8 ≡ 8 * n = omega arith in e)
