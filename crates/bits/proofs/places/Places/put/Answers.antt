use Rattle.std.proofs.Common.{◌≡◌, ◌/◌, ◌%◌, Bool, true, false, cond, ◌&&◌, ◌||◌, eqb, get_or, refl, ◌∙◌, arith}
use Rattle.bits.specs.Words.{bit}
use Rattle.bits.proofs.Sets.{in_set}
use Rattle.bits.proofs.places.Places.put.Goals as goal

here : (at old flag : Bool) → flag ≡ true → cond at true old ≡ ((at && flag) || old)
here true true flag e = rw e refl
here true false flag e = rw e refl
here false old flag e = refl

pub returns-then-k-lt-PLACES-clause-items : goal.returns-then-k-lt-PLACES-clause-items
returns-then-k-lt-PLACES-clause-items c h =
    let ws = c.args.self.now.words in
    let k = c.args.k in
    in_set 64 (λ at old. (at && c.args.flag) || old) (λ _. refl) ws k _ (omega arith)
    (λ n. c.with.ensures.items (omega arith) n ∙ here (eqb n (k % 64)) (bit (get_or ws (k / 64) 0) n) c.args.flag c.if-flag.true)
