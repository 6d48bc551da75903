use Rattle.std.proofs.Common.{◌≡◌, ℕ, ◌<◌, Bool, false, ◌&&◌, ◌||◌, sym, refl, ap, ◌∙◌, subst, ap₂, arith}
use Rattle.std.proofs.Math.Bool.{or_comm}
use Rattle.bits.specs.Member.{member}
use Rattle.psl.specs.Automaton.{states}
use Rattle.psl.specs.Numbered.{numbered_init}
use Rattle.psl.specs.OptionalClock as clocks
use Rattle.psl.specs.Syntax.{atom}
use Rattle.psl.proofs.Numbered.{init_numbered}
use Rattle.automaton.specs.declared.part.Part.{Part}
use Rattle.automaton.specs.Clocks.{letter_in}
use Rattle.automaton.specs.Parts.{clock_in, sequence_of, size}
use Rattle.automaton.specs.Standing.{Stands}
use Rattle.automaton.specs.Views.{column, row, EndedIn, Advanced}
use Rattle.automaton.proofs.PartMoves.{enter_same, none_advanced, concat_advanced, fusion_advanced, either_advanced, star_advanced}
use Rattle.automaton.proofs.Sweep.{Swept, swept_more, columns_apart, rows_apart, both_advanced}
use Rattle.automaton.proofs.Standing.{told, told_behind, same_clock}
use Rattle.automaton.proofs.placed.Placed.+advance.Goals as goal

pub advance-returns-in-Stateless : goal.advance-returns-in-Stateless
advance-returns-in-Stateless t c =
    let p = c.args.self.part in
    let k = clock_in p in
    let v = c.args.self.view in
    let l = letter_in c.args.letter in
    let enter = member c.args.enter.now in
    let S = c.args.starts.now.sets in
    none_advanced k (sequence_of p) l enter v S c.in-Stateless.ensures.value

pub advance-returns-in-Free : goal.advance-returns-in-Free
advance-returns-in-Free t c =
    let p = c.args.self.part in
    let k = clock_in p in
    let v = c.args.self.view in
    let l = letter_in c.args.letter in
    let enter = member c.args.enter.now in
    let S = c.args.starts.now.sets in
    let (clock, is) = c.in-Free.ensures.value in
    let S1 = c.advance_free.new.starts.sets in
    subst (λ k. Advanced k (sequence_of p) l enter v S S1) (sym clock) (subst (λ r. Advanced clocks.free r l enter v S S1) (sym is) c.advance_free.ensures)

pub advance-returns-in-Clocked : goal.advance-returns-in-Clocked
advance-returns-in-Clocked t c =
    let p = c.args.self.part in
    let k = clock_in p in
    let v = c.args.self.view in
    let l = letter_in c.args.letter in
    let enter = member c.args.enter.now in
    let S = c.args.starts.now.sets in
    let (clock, is) = c.in-Clocked.ensures.value in
    let S1 = c.advance_clocked.new.starts.sets in
    subst (λ k. Advanced k (sequence_of p) l enter v S S1) (sym clock) (subst (λ r. Advanced (clocks.on (atom c.in-Clocked.c)) r l enter v S S1) (sym is) c.advance_clocked.ensures)

pub advance-returns-in-Concat : goal.advance-returns-in-Concat
advance-returns-in-Concat t c =
    let p = c.args.self.part in
    let k = clock_in p in
    let v = c.args.self.view in
    let l = letter_in c.args.letter in
    let enter = member c.args.enter.now in
    let S = c.args.starts.now.sets in
    let r = c.in-Concat.r in
    let s = c.in-Concat.s in
    let (a, b, is) = c.in-Concat.ensures.value in
    let kr = same_clock p r a in
    let ks = same_clock p s b in
    let S1 = c.advance.new.starts.sets in
    let S2 = c.advance-in-Concat.new.starts.sets in
    let onward = member c.gather.new.self in
    let one = told (λ k q v. Advanced k q l enter v S S1) c.halves.result.0 r k v kr c.halves.ensures.first c.advance.ensures in
    let two = told_behind (λ k q v. Advanced k q l onward v S1 S2) c.halves.result.1 r s k v kr ks c.halves.ensures.second c.advance-in-Concat.ensures in
    let before = told (λ k q v. EndedIn k q v S c.ended-onward.result) c.halves.result.0 r k v kr c.halves.ensures.first c.ended-onward.ensures.items in
    subst (λ q. Advanced k q l enter v S S2) (sym is) (concat_advanced k (sequence_of r) (sequence_of s) v c.args.self.fits.apart l enter onward S S1 S2 one two
    (λ x. c.gather.ensures.items x ∙ or_comm (member c.ended-onward.result x) (enter x && c.node.result.null) ∙ ap₂ (λ (n e : Bool). (enter x && n) || e) c.node.ensures.facts.2 (before x)))

pub advance-returns-in-Fusion : goal.advance-returns-in-Fusion
advance-returns-in-Fusion t c =
    let p = c.args.self.part in
    let k = clock_in p in
    let v = c.args.self.view in
    let l = letter_in c.args.letter in
    let enter = member c.args.enter.now in
    let S = c.args.starts.now.sets in
    let r = c.in-Fusion.r in
    let s = c.in-Fusion.s in
    let (a, b, is) = c.in-Fusion.ensures.value in
    let kr = same_clock p r a in
    let ks = same_clock p s b in
    let S1 = c.advance-in-Fusion.new.starts.sets in
    let S2 = c.advance-in-Fusion-2.new.starts.sets in
    let onward = member c.ended-onward-in-Fusion.result in
    let one = told (λ k q v. Advanced k q l enter v S S1) c.halves-in-Fusion.result.0 r k v kr c.halves-in-Fusion.ensures.first c.advance-in-Fusion.ensures in
    let two = told_behind (λ k q v. Advanced k q l onward v S1 S2) c.halves-in-Fusion.result.1 r s k v kr ks c.halves-in-Fusion.ensures.second c.advance-in-Fusion-2.ensures in
    let before = told (λ k q v. EndedIn k q v S1 c.ended-onward-in-Fusion.result) c.halves-in-Fusion.result.0 r k v kr c.halves-in-Fusion.ensures.first c.ended-onward-in-Fusion.ensures.items in
    subst (λ q. Advanced k q l enter v S S2) (sym is) (fusion_advanced k (sequence_of r) (sequence_of s) v c.args.self.fits.apart l enter onward S S1 S2 one two before)

pub advance-returns-in-Either : goal.advance-returns-in-Either
advance-returns-in-Either t c =
    let p = c.args.self.part in
    let k = clock_in p in
    let v = c.args.self.view in
    let l = letter_in c.args.letter in
    let enter = member c.args.enter.now in
    let S = c.args.starts.now.sets in
    let r = c.in-Either.r in
    let s = c.in-Either.s in
    let (a, b, is) = c.in-Either.ensures.value in
    let kr = same_clock p r a in
    let ks = same_clock p s b in
    let S1 = c.advance-in-Either.new.starts.sets in
    let S2 = c.advance-in-Either-2.new.starts.sets in
    let onward = enter in
    let one = told (λ k q v. Advanced k q l enter v S S1) c.halves-in-Either.result.0 r k v kr c.halves-in-Either.ensures.first c.advance-in-Either.ensures in
    let two = told_behind (λ k q v. Advanced k q l onward v S1 S2) c.halves-in-Either.result.1 r s k v kr ks c.halves-in-Either.ensures.second c.advance-in-Either-2.ensures in
    subst (λ q. Advanced k q l enter v S S2) (sym is) (either_advanced k (sequence_of r) (sequence_of s) v c.args.self.fits.apart l enter onward S S1 S2 one two (λ x. refl))

pub advance-returns-in-Star : goal.advance-returns-in-Star
advance-returns-in-Star t c =
    let p = c.args.self.part in
    let k = clock_in p in
    let v = c.args.self.view in
    let l = letter_in c.args.letter in
    let enter = member c.args.enter.now in
    let S = c.args.starts.now.sets in
    let r = c.in-Star.r in
    let (a, is) = c.in-Star.ensures.value in
    let kr = same_clock p r a in
    let S1 = c.advance-in-Star.new.starts.sets in
    let again = member c.join.new.self in
    let step = told (λ k q v. Advanced k q l again v S S1) c.with-part.result r k v kr c.with-part.ensures c.advance-in-Star.ensures in
    let before = told (λ k q v. EndedIn k q v S c.ended-again.result) c.with-part.result r k v kr c.with-part.ensures c.ended-again.ensures.items in
    subst (λ q. Advanced k q l enter v S S1) (sym is)
    (star_advanced k (sequence_of r) l enter again v S S1
    (λ x. c.join.ensures.items x ∙ or_comm (member c.ended-again.result x) (enter x) ∙ ap (λ (e : Bool). enter x || e) (before x)) step)

pub advance-returns-in-At : goal.advance-returns-in-At
advance-returns-in-At t c =
    let p = c.args.self.part in
    let k = clock_in p in
    let v = c.args.self.view in
    let l = letter_in c.args.letter in
    let enter = member c.args.enter.now in
    let S = c.args.starts.now.sets in
    let r = c.in-At.r in
    let (a, kd, is) = c.in-At.ensures.value in
    let d = clocks.on (atom c.in-At.field-1) in
    let S1 = c.advance-in-At.new.starts.sets in
    let step = told (λ k q v. Advanced k q l enter v S S1) c.with.result r d v kd c.with.ensures c.advance-in-At.ensures in
    subst (λ q. Advanced k q l enter v S S1) (sym is) step

pub advance_pairs-loop-p-preserved : goal.advance_pairs-loop-p-preserved
advance_pairs-loop-p-preserved t c =
    let p = c.args.self.part in
    let k = clock_in p in
    let v = c.args.self.view in
    let l = letter_in c.args.letter in
    let enter = member c.args.enter.now in
    let S = c.args.starts.now.sets in
    let r = c.args.r in
    let s = c.args.s in
    let (a, b, is, some) = c.requires in
    let ks = same_clock p s b in
    let m = states k (sequence_of s) in
    let S1 = c.loop-p.starts.sets in
    let S2 = c.advance.new.starts.sets in
    let none = member c.none-none.result in
    let below : c.loop-p.p < m = omega (arith, c.loop-p-test.true, c.states-p-end.ensures.value, ap (λ k. states k (sequence_of s)) ks) in
    let stands : Stands c.column.result r (column v c.loop-p.p m) = (
      c.column.ensures.0,
      c.column.ensures.1 ∙ ap₂ (λ (o : Part) (j : ℕ). column v j (size o)) c.state.ensures.0 c.state.ensures.1 ∙ ap (λ k. column v c.loop-p.p (states k (sequence_of s))) ks,
    ) in
    let step = told (λ k q v. Advanced k q l none v S1 S2) c.column.result r k (column v c.loop-p.p m) (same_clock p r a) stands c.advance.ensures in
    swept_more k (sequence_of r) l (λ j. column v j m) m (λ j x. false) S (columns_apart v c.args.self.fits.apart (states k (sequence_of r)) m) S1 S2 c.loop-p.p below c.loop-p.invariant
    (enter_same k (sequence_of r) l none (λ x. false) (column v c.loop-p.p m) S1 S2 c.none-none.ensures.items step)

pub advance_pairs-loop-q-preserved : goal.advance_pairs-loop-q-preserved
advance_pairs-loop-q-preserved t c =
    let p = c.args.self.part in
    let k = clock_in p in
    let v = c.args.self.view in
    let l = letter_in c.args.letter in
    let enter = member c.args.enter.now in
    let S = c.args.starts.now.sets in
    let r = c.args.r in
    let s = c.args.s in
    let (a, b, is, some) = c.requires in
    let kr = same_clock p r a in
    let ks = same_clock p s b in
    let n = states k (sequence_of r) in
    let m = states k (sequence_of s) in
    let q = c.loop-q.q in
    let S1 = c.loop-q.starts.sets in
    let S2 = c.advance-in-loop-q.new.starts.sets in
    let first = member c.keep.new.self in
    let below : q < n = omega (arith, c.loop-q-test.true, c.states-q-end.ensures.value, ap (λ k. states k (sequence_of r)) kr) in
    let stands : Stands c.row.result s (row v q m) = (c.row.ensures.0, c.row.ensures.1 ∙ ap (λ (j : ℕ). row v j (size s)) c.state-first.ensures.1 ∙ ap (λ k. row v q (states k (sequence_of s))) ks) in
    let start = c.starts.ensures.value ∙ ap₂ (λ (o : Part) (j : ℕ). numbered_init (clock_in o) (sequence_of o) l j) c.state-first.ensures.0 c.state-first.ensures.1
    ∙ ap (λ k. numbered_init k (sequence_of r) l q) kr in
    let step = told (λ k q v. Advanced k q l first v S1 S2) c.row.result s k (row v q m) ks stands c.advance-in-loop-q.ensures in
    swept_more k (sequence_of s) l (λ j. row v j m) n (λ j x. enter x && numbered_init k (sequence_of r) l j) c.loop-p.starts.sets
    (rows_apart v c.args.self.fits.apart n m) S1 S2 q below c.loop-q.invariant
    (enter_same k (sequence_of s) l first (λ x. enter x && numbered_init k (sequence_of r) l q) (row v q m) S1 S2
    (λ x. c.keep.ensures.items x ∙ ap (λ (b : Bool). enter x && b) start) step)

pub advance_pairs-returns : goal.advance_pairs-returns
advance_pairs-returns t c =
    let p = c.args.self.part in
    let k = clock_in p in
    let v = c.args.self.view in
    let l = letter_in c.args.letter in
    let enter = member c.args.enter.now in
    let S = c.args.starts.now.sets in
    let r = c.args.r in
    let s = c.args.s in
    let (a, b, is, some) = c.requires in
    let R = sequence_of r in
    let Q = sequence_of s in
    let S1 = c.loop-p.starts.sets in
    let S2 = c.loop-q.starts.sets in
    let all_p : c.loop-p.p ≡ states k Q = omega (arith, c.states-p-end.ensures.value, ap (λ k. states k Q) (same_clock p s b)) in
    let all_q : c.loop-q.q ≡ states k R = omega (arith, c.states-q-end.ensures.value, ap (λ k. states k R) (same_clock p r a)) in
    let inits : ℕ → ℕ → Bool = λ j x. enter x && numbered_init k R l j in
    let columns : Swept k R l (λ j. column v j (states k Q)) (states k Q) (λ j x. false) S S1 (states k Q) =
    subst (Swept k R l (λ j. column v j (states k Q)) (states k Q) (λ j x. false) S S1) all_p c.loop-p.invariant in
    let rows : Swept k Q l (λ j. row v j (states k Q)) (states k R) inits S1 S2 (states k R) =
    subst (Swept k Q l (λ j. row v j (states k Q)) (states k R) inits S1 S2) all_q c.loop-q.invariant in
    subst (λ r. Advanced k r l enter v S S2) (sym is)
    (both_advanced k R Q l v enter inits (λ j x. false) S S1 S2 columns rows (λ q x. ap (λ (b : Bool). enter x && b) (init_numbered k R l q)) (λ j x. refl))
