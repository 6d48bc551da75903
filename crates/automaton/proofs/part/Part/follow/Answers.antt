use Rattle.std.proofs.Common.{◌≡◌, ℕ, ◌+◌, true, false, Bool, ◌&&◌, ◌||◌, eqb, ap, ◌∙◌, subst, arith, ap₂, refl}
use Rattle.std.proofs.lemmas.Bool.Decides.{nat_tests}
use Rattle.bits.specs.Member.{member}
use Rattle.truth.specs.Rows.{letter_of}
use Rattle.automaton.specs.Clocks.{letter_at, letter_in}
use Rattle.automaton.specs.Parts.{clock_in, sequence_of}
use Rattle.automaton.specs.Views.{whole, MovedBy, EndedIn}
use Rattle.automaton.proofs.Follow.{followed_more, ended_accepts, Followed, Found}
use Rattle.automaton.proofs.Arrive.{found_more, arrived}
use Rattle.automaton.proofs.Standing.{told}
use Rattle.automaton.proofs.part.Part.follow.Goals as goal

one : (b : Bool) → ((b && true) || false) ≡ b
one b = grind (arith, nat_tests)

pub loop-place-preserved : goal.loop-place-preserved
loop-place-preserved c =
    let k = clock_in c.args.self in
    let r = sequence_of c.args.self in
    let own = c.args.truth.own.now in
    let other = c.args.truth.other.now in
    let i = c.loop-place.place in
    let lo = c.args.lo in
    let inv = c.loop-place.invariant in
    let S = c.loop-place.starts.sets in
    let S' = c.advance.new.starts.sets in
    let here = member c.put.new.self in
    let l : letter_in c.letter.result ≡ letter_at own other i = ap₂ letter_of c.letter.ensures.own c.letter.ensures.other in
    let moved = subst (λ l. MovedBy k r l here whole S S') l (told (λ k q v. MovedBy k q (letter_in c.letter.result) here v S S') c.whole-whole.result c.args.self k whole refl c.whole-whole.ensures c.advance.ensures.0) in
    let ended = told (λ k q v. EndedIn k q v S' c.ended.result) c.whole-whole.result c.args.self k whole refl c.whole-whole.ensures c.ended.ensures.items in
    let at : (x : ℕ) → here x ≡ eqb x i =
    λ x. c.put.ensures.items (omega arith) x ∙ ap (λ (b : Bool). (eqb x i && true) || b) (c.none-here.ensures.items x) ∙ one (eqb x i) in
    let followed : Followed own other k r lo (i + 1) S' = followed_more own other k r lo i inv.order S S' here at inv.followed moved in
    record {
      order = omega arith;
      followed = followed;
      found = found_more own other k r (member c.args.targets.now) lo i inv.order c.loop-place.found c.ended.result c.gather.new.self c.contains.result
          inv.found (ended_accepts own other k r lo i inv.order S' c.ended.result followed ended) c.gather.ensures.items c.contains.ensures.value;
    }

pub returns : goal.returns
returns c =
    let k = clock_in c.args.self in
    let r = sequence_of c.args.self in
    let own = c.args.truth.own.now in
    let other = c.args.truth.other.now in
    let inv = c.loop-place.invariant in
    let S = c.loop-place.starts.sets in
    let targets = member c.args.targets.now in
    let all : c.loop-place.place ≡ c.args.hi = omega arith in
    record {
      items = arrived own other k r targets c.args.lo c.args.hi c.requires.order S c.loop-place.found c.hopeful.result
          c.gather-2.new.self c.put-2.new.self c.args.beyond (c.args.beyond && c.node.result.live)
          (subst (λ i. Followed own other k r c.args.lo i S) all inv.followed)
          (subst (λ i. Found own other k r targets c.args.lo i c.loop-place.found) all inv.found) c.hopeful.ensures.items c.gather-2.ensures.items
          (c.put-2.ensures.items (omega arith)) (ap (λ (b : Bool). c.args.beyond && b) c.node.ensures.facts.3);
    }
