use Rattle.std.proofs.Common.{ℕ, ◌%◌, ◌^◌, ◌<◌, cond, eqb, refl, ap, ◌∙◌, rules, arith, length-set}
use Rattle.bits.specs.Words.{bit}
use Rattle.bits.proofs.Sets.{in_set}
use Rattle.bits.proofs.flags.put.Goals as goal

pub overflow_cast-row : goal.overflow_cast-row
overflow_cast-row c =
    let short : c.from.result < 2 ^ 8 = rw c.from.ensures (omega arith) in
    let few = c.with.ensures.short 8 (omega arith) short in
    search rules

pub returns-then-n-row : goal.returns-then-n-row
returns-then-n-row c = record {
  items = λ h. in_set 8 (λ here old. cond here c.args.flag old) (λ _. refl) c.args.row.now c.args.n _ h
      (λ k. c.with.ensures.items (omega arith) k ∙ ap (λ (z : ℕ). cond (eqb k (c.args.n % 8)) c.args.flag (bit z k)) c.from.ensures);
  same = λ h. absurd (omega arith);
  len = length-set _ _ _;
}
