use Rattle.std.proofs.Common.{◌≡◌, ℕ, Bool, ◌&&◌, get_or, ap, ◌∙◌, arith}
use Rattle.bits.specs.Member.{member}
use Rattle.psl.specs.Automaton.{live}
use Rattle.psl.specs.Evaluation.{some_below}
use Rattle.psl.specs.Numbered.{number, numbered_live}
use Rattle.psl.proofs.Number.{some_any}
use Rattle.psl.proofs.Numbered.{live_numbered}
use Rattle.automaton.specs.Parts.{clock_in, sequence_of, size}
use Rattle.automaton.specs.Views.{place, whole, bare, starts_in}
use Rattle.automaton.proofs.part.Part.hopeful.Goals as goal

pub returns : goal.returns
returns c =
    let k = clock_in c.args.self in
    let r = sequence_of c.args.self in
    let sets = c.args.starts.now.sets in
    let starts = λ (x : ℕ) (p : ℕ). member (get_or sets (place whole p) bare) x in
    let all : c.loop-p.p ≡ size c.args.self = omega arith in
    record {
      items = λ x.
          c.loop-p.invariant x
          ∙ ap (λ (n : ℕ). some_below n (λ p. starts x p && numbered_live k r p)) all
          ∙ some_any k r (λ p. starts x p && numbered_live k r p) (λ q. starts_in sets whole k r x q && live k r q)
          (λ q. ap (λ (b : Bool). starts x (number k r q) && b) (live_numbered k r q));
    }
