use Rattle.std.proofs.Common.{rules, ◌≡◌, ℕ, ◌-◌, ◌*◌, ◌/◌, ◌%◌, ◌^◌, min, ltb, ◌∙◌, arith}
use Rattle.std.proofs.lemmas.Bool.Decides.{nat_tests}
use Rattle.bits.proofs.Bitwise.{bit_lowest}
use Rattle.bits.proofs.Sets.{written_by_calls, in_written}
use Rattle.bits.proofs.places.below.Goals as goal

same_side : (n j : ℕ) → ltb (j % 64) (min (n - 64 * (j / 64)) 64) ≡ ltb j n
same_side n j = grind (arith, nat_tests)

pub returns : goal.returns
returns c =
    let n = c.args.n in
    record {
      items =
          let f : ℕ → ℕ = λ q. 2 ^ min (n - 64 * q) 64 - 1 in
          in_written 64 f c.from_fn-words.result 9 (omega arith) (omega (arith, c.from_fn-words.ensures.items.long))
          (written_by_calls _ _ f (λ i y q call. search rules) c.from_fn-words.result 9 c.from_fn-words.ensures.items.each)
          (λ j. ltb j n) (λ j. bit_lowest (min (n - 64 * (j / 64)) 64) (j % 64) ∙ same_side n j);
    }
