use Rattle.std.proofs.Common.{sym, refl, ap, ◌∙◌, subst, ap₂, arith}
use Rattle.std.proofs.lemmas.Option.{get_or_from_slice_get}
use Rattle.std.proofs.lemmas.Bool.{ltb-true}
use Rattle.psl.specs.Syntax.{concat, fusion, either, both, star, condition}
use Rattle.psl.specs.Removal.{unclock_sequence}
use Rattle.psl.specs.declared.entry.Sequence.TheVariants as s
use Rattle.form.specs.Draft.{SequenceIs}
use Rattle.form.specs.SequenceImages.{sequence_image}
use Rattle.form.specs.Pairs.{key, sequence_adds_conditions, sequence_adds_sequences}
use Rattle.form.proofs.Grown.{grows_none, sequence_as}
use Rattle.form.proofs.SequenceImages.{wrote, ready_at, operand, image_is}
use Rattle.form.proofs.write.write_sequence.Goals as goal

pub returns-in-Condition : goal.returns-in-Condition
returns-in-Condition c =
    let p = c.args.p.now in
    let i = c.args.pair.entry in
    let k = c.args.pair.clock in
    let told = c.in-Condition.ensures in
    let new = c.tick.ensures in
    let clock = c.requires.carries k c.requires.clock in
    let under = c.requires.carries c.in-Condition.b (ltb-true _ _ told.names) in
    record {
      grows = new.grows;
      is = sequence_as (ap₂ (λ t u. unclock_sequence t (condition u)) clock.is under.is ∙ sym (image_is p i k c.requires.there (s.Condition c.in-Condition.b) told)) new.is;
      count_c = omega (arith, new.counts.0, ap sequence_adds_conditions told.is);
      count_s = omega (arith, new.counts.1, ap sequence_adds_sequences told.is);
      count_f = new.counts.2;
    }

pub returns-in-Concat : goal.returns-in-Concat
returns-in-Concat c =
    let p = c.args.p.now in
    let d = c.args.d.now in
    let i = c.args.pair.entry in
    let k = c.args.pair.clock in
    let told = c.in-Concat.ensures in
    let e = s.Concat c.in-Concat.a c.in-Concat.b in
    let ready = ready_at p i k c.requires.there d c.args.places.now.cells e told c.requires.ready in
    wrote p i k c.requires.there d _ e told _ _ c.add_sequence.ensures
    (ap₂ concat (operand p d c.args.places.now.cells _ _ _ (rw (c.with.ensures.entry, c.with.ensures.clock) at c.get.ensures) ready.0)
    (operand p d c.args.places.now.cells _ _ _ (rw (c.with-in-Concat.ensures.entry, c.with-in-Concat.ensures.clock) at c.get-in-Concat.ensures) ready.1))
    refl refl

pub returns-in-Fusion : goal.returns-in-Fusion
returns-in-Fusion c =
    let p = c.args.p.now in
    let d = c.args.d.now in
    let i = c.args.pair.entry in
    let k = c.args.pair.clock in
    let told = c.in-Fusion.ensures in
    let e = s.Fusion c.in-Fusion.a c.in-Fusion.b in
    let ready = ready_at p i k c.requires.there d c.args.places.now.cells e told c.requires.ready in
    wrote p i k c.requires.there d _ e told _ _ c.add_sequence-in-Fusion.ensures
    (ap₂ fusion (operand p d c.args.places.now.cells _ _ _ (rw (c.with-in-Fusion.ensures.entry, c.with-in-Fusion.ensures.clock) at c.get-in-Fusion.ensures) ready.0)
    (operand p d c.args.places.now.cells _ _ _ (rw (c.with-in-Fusion-2.ensures.entry, c.with-in-Fusion-2.ensures.clock) at c.get-in-Fusion-2.ensures) ready.1))
    refl refl

pub returns-in-Either : goal.returns-in-Either
returns-in-Either c =
    let p = c.args.p.now in
    let d = c.args.d.now in
    let i = c.args.pair.entry in
    let k = c.args.pair.clock in
    let told = c.in-Either.ensures in
    let e = s.Either c.in-Either.a c.in-Either.b in
    let ready = ready_at p i k c.requires.there d c.args.places.now.cells e told c.requires.ready in
    wrote p i k c.requires.there d _ e told _ _ c.add_sequence-in-Either.ensures
    (ap₂ either (operand p d c.args.places.now.cells _ _ _ (rw (c.with-in-Either.ensures.entry, c.with-in-Either.ensures.clock) at c.get-in-Either.ensures) ready.0)
    (operand p d c.args.places.now.cells _ _ _ (rw (c.with-in-Either-2.ensures.entry, c.with-in-Either-2.ensures.clock) at c.get-in-Either-2.ensures) ready.1))
    refl refl

pub returns-in-Both : goal.returns-in-Both
returns-in-Both c =
    let p = c.args.p.now in
    let d = c.args.d.now in
    let i = c.args.pair.entry in
    let k = c.args.pair.clock in
    let told = c.in-Both.ensures in
    let e = s.Both c.in-Both.a c.in-Both.b in
    let ready = ready_at p i k c.requires.there d c.args.places.now.cells e told c.requires.ready in
    wrote p i k c.requires.there d _ e told _ _ c.add_sequence-in-Both.ensures
    (ap₂ both (operand p d c.args.places.now.cells _ _ _ (rw (c.with-in-Both.ensures.entry, c.with-in-Both.ensures.clock) at c.get-in-Both.ensures) ready.0)
    (operand p d c.args.places.now.cells _ _ _ (rw (c.with-in-Both-2.ensures.entry, c.with-in-Both-2.ensures.clock) at c.get-in-Both-2.ensures) ready.1))
    refl refl

pub returns-in-Empty : goal.returns-in-Empty
returns-in-Empty c =
    wrote c.args.p.now c.args.pair.entry c.args.pair.clock c.requires.there c.args.d.now _ s.Empty c.in-Empty.ensures _ _ c.add_sequence-in-Empty.ensures refl refl refl

pub returns-in-Star : goal.returns-in-Star
returns-in-Star c =
    let p = c.args.p.now in
    let d = c.args.d.now in
    let i = c.args.pair.entry in
    let k = c.args.pair.clock in
    let told = c.in-Star.ensures in
    let e = s.Star c.in-Star.a in
    let ready = ready_at p i k c.requires.there d c.args.places.now.cells e told c.requires.ready in
    wrote p i k c.requires.there d _ e told _ _ c.add_sequence-in-Star.ensures
    (ap star (operand p d c.args.places.now.cells _ _ _ (rw (c.with-in-Star.ensures.entry, c.with-in-Star.ensures.clock) at c.get-in-Star.ensures) ready)) refl refl

pub returns-in-At : goal.returns-in-At
returns-in-At c =
    let p = c.args.p.now in
    let d = c.args.d.now in
    let i = c.args.pair.entry in
    let k = c.args.pair.clock in
    let told = c.in-At.ensures in
    let e = s.At c.in-At.a c.in-At.e in
    let ready = ready_at p i k c.requires.there d c.args.places.now.cells e told c.requires.ready in
    record {
      grows = grows_none d;
      is = subst (λ r. SequenceIs d r (sequence_image p i k)) (get_or_from_slice_get c.args.places.now.cells (key c.in-At.a c.in-At.e) _ 0 c.get-in-At.ensures) (sequence_as (sym (image_is p i k c.requires.there e told)) ready);
      count_c = omega (arith, ap sequence_adds_conditions told.is);
      count_s = omega (arith, ap sequence_adds_sequences told.is);
      count_f = refl;
    }
