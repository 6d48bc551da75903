use Rattle.std.proofs.Common.{◌≡◌, Bool, ◌&&◌, ◌||◌, sym, ap, ◌∙◌, subst, refl, arith}
use Rattle.bits.specs.Member.{member}
use Rattle.psl.specs.Automaton.{states}
use Rattle.psl.specs.OptionalClock as clocks
use Rattle.psl.specs.Syntax.{atom}
use Rattle.automaton.specs.Parts.{clock_in, sequence_of}
use Rattle.automaton.specs.Views.{EndedIn}
use Rattle.automaton.proofs.Ends.{free_ended, clocked_ended, concat_ended, either_ended, fusion_ended, both_ended, none_ended}
use Rattle.automaton.proofs.Standing.{told, told_behind, same_clock}
use Rattle.automaton.proofs.placed.Placed.+ended.Goals as goal

pub returns-in-Stateless : goal.returns-in-Stateless
returns-in-Stateless t c =
    let p = c.args.self.part in
    record { items = none_ended (clock_in p) (sequence_of p) c.args.self.view c.args.starts.now.sets c.none.result c.in-Stateless.ensures.value c.none.ensures.items }

pub returns-in-Free : goal.returns-in-Free
returns-in-Free t c =
    let p = c.args.self.part in
    let v = c.args.self.view in
    let S = c.args.starts.now.sets in
    let found = c.of.result in
    let (clock, is) = c.in-Free.ensures.value in
    record {
      items = subst (λ k. EndedIn k (sequence_of p) v S found) (sym clock)
          (subst (λ r. EndedIn clocks.free r v S found) (sym is) (free_ended (atom c.in-Free.field-0) v S found c.of.ensures.value));
    }

pub returns-in-Clocked : goal.returns-in-Clocked
returns-in-Clocked t c =
    let p = c.args.self.part in
    let v = c.args.self.view in
    let S = c.args.starts.now.sets in
    let found = c.of-in-Clocked.result in
    let (clock, is) = c.in-Clocked.ensures.value in
    record {
      items = subst (λ k. EndedIn k (sequence_of p) v S found) (sym clock)
          (subst (λ r. EndedIn (clocks.on (atom c.in-Clocked.field-0)) r v S found) (sym is) (clocked_ended (atom c.in-Clocked.field-0) (atom c.in-Clocked.field-1) v S found c.of-in-Clocked.ensures.value));
    }

pub returns-in-Concat : goal.returns-in-Concat
returns-in-Concat t c =
    let p = c.args.self.part in
    let k = clock_in p in
    let v = c.args.self.view in
    let S = c.args.starts.now.sets in
    let r = c.in-Concat.r in
    let s = c.in-Concat.s in
    let (a, b, is) = c.in-Concat.ensures.value in
    let f = c.ended.result in
    let g = c.ended-found.result in
    let found = c.gather.new.self in
    let first = told (λ k q v. EndedIn k q v S f) c.halves.result.0 r k v (same_clock p r a) c.halves.ensures.first c.ended.ensures.items in
    let second = told_behind (λ k q v. EndedIn k q v S g) c.halves.result.1 r s k v (same_clock p r a) (same_clock p s b) c.halves.ensures.second c.ended-found.ensures.items in
    record {
      items = subst (λ q. EndedIn k q v S found) (sym is)
          (concat_ended k (sequence_of r) (sequence_of s) v S f g first second found
          (λ x. c.gather.ensures.items x ∙ ap (λ (b : Bool). member g x || (member f x && b)) c.node.ensures.facts.2));
    }

pub returns-in-Fusion : goal.returns-in-Fusion
returns-in-Fusion t c =
    let p = c.args.self.part in
    let k = clock_in p in
    let v = c.args.self.view in
    let S = c.args.starts.now.sets in
    let r = c.in-Fusion.r in
    let s = c.in-Fusion.s in
    let (a, b, is) = c.in-Fusion.ensures.value in
    let g = c.ended-in-Fusion.result in
    let second = told_behind (λ k q v. EndedIn k q v S g) c.halves-in-Fusion.result.1 r s k v (same_clock p r a) (same_clock p s b) c.halves-in-Fusion.ensures.second c.ended-in-Fusion.ensures.items in
    record { items = subst (λ q. EndedIn k q v S g) (sym is) (fusion_ended k (sequence_of r) (sequence_of s) v S g second) }

pub returns-in-Either : goal.returns-in-Either
returns-in-Either t c =
    let p = c.args.self.part in
    let k = clock_in p in
    let v = c.args.self.view in
    let S = c.args.starts.now.sets in
    let r = c.in-Either.r in
    let s = c.in-Either.s in
    let (a, b, is) = c.in-Either.ensures.value in
    let f = c.ended-found-in-Either.result in
    let g = c.ended-in-Either.result in
    let found = c.join.new.self in
    let first = told (λ k q v. EndedIn k q v S f) c.halves-in-Either.result.0 r k v (same_clock p r a) c.halves-in-Either.ensures.first c.ended-found-in-Either.ensures.items in
    let second = told_behind (λ k q v. EndedIn k q v S g) c.halves-in-Either.result.1 r s k v (same_clock p r a) (same_clock p s b) c.halves-in-Either.ensures.second c.ended-in-Either.ensures.items in
    record { items = subst (λ q. EndedIn k q v S found) (sym is) (either_ended k (sequence_of r) (sequence_of s) v S f g first second found c.join.ensures.items) }

pub returns-after-loop-p : goal.returns-after-loop-p
returns-after-loop-p t c =
    let p = c.args.self.part in
    let k = clock_in p in
    let v = c.args.self.view in
    let S = c.args.starts.now.sets in
    let r = c.in-Both.r in
    let s = c.in-Both.s in
    let (a, b, is, some) = c.in-Both.ensures.value in
    let all : c.loop-p.p ≡ c.states-p-end.result = omega arith in
    record {
      items = subst (λ q. EndedIn k q v S c.loop-p.found) (sym is)
          (both_ended k (sequence_of r) (sequence_of s) v S c.loop-p.found c.loop-p.p (states k (sequence_of s))
          (all ∙ c.states-p-end.ensures.value ∙ ap (λ k. states k (sequence_of r)) (same_clock p r a)) refl c.loop-p.invariant);
    }

pub returns-in-Star : goal.returns-in-Star
returns-in-Star t c =
    let p = c.args.self.part in
    let k = clock_in p in
    let v = c.args.self.view in
    let S = c.args.starts.now.sets in
    let r = c.in-Star.r in
    let (a, is) = c.in-Star.ensures.value in
    let f = c.ended-in-Star.result in
    record { items = subst (λ q. EndedIn k q v S f) (sym is) (told (λ k q v. EndedIn k q v S f) c.with.result r k v (same_clock p r a) c.with.ensures c.ended-in-Star.ensures.items) }

pub returns-in-At : goal.returns-in-At
returns-in-At t c =
    let p = c.args.self.part in
    let v = c.args.self.view in
    let S = c.args.starts.now.sets in
    let r = c.in-At.r in
    let (a, k, is) = c.in-At.ensures.value in
    let f = c.ended-in-At.result in
    let d = clocks.on (atom c.in-At.field-1) in
    record { items = subst (λ q. EndedIn (clock_in p) q v S f) (sym is) (told (λ k q v. EndedIn k q v S f) c.with-in-At.result r d v k c.with-in-At.ensures c.ended-in-At.ensures.items) }
