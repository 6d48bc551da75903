use Rattle.std.proofs.Common.{◌^◌, ◌<◌, rules, arith}
use Rattle.letter.proofs.atoms.Atoms.with.Goals as goal

pub overflow_cast-with : goal.overflow_cast-with
overflow_cast-with c =
    let short : c.from.result < 2 ^ 32 = rw c.from.ensures (c.args.self.short) in
    let few = c.with.ensures.short 32 (omega arith) short in
    search rules
