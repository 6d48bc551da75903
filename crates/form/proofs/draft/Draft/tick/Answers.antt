use Rattle.std.proofs.Common.{get_or, refl, ap, ap₂, arith}
use Rattle.psl.specs.Syntax.{falsity, conjunction, condition, star, concat}
use Rattle.psl.specs.Table.{conditions}
use Rattle.form.specs.Draft.{conditions_in, ConditionIs}
use Rattle.form.proofs.Grown.{keep_condition, keep_sequence, grows_twice, condition_as, sequence_as}
use Rattle.form.proofs.draft.Draft.tick.Goals as goal

pub returns : goal.returns
returns c =
    let d = c.args.self.now in
    let i1 = c.add_condition-idle.ensures in
    let i2 = c.add_condition-hit.ensures in
    let i3 = c.add_sequence-wait.ensures in
    let i4 = c.add_sequence-waits.ensures in
    let i5 = c.add_sequence-last.ensures in
    let i6 = c.add_sequence.ensures in
    let clock : ConditionIs d c.args.c (get_or (conditions (conditions_in d)) c.args.c falsity) = record { there = c.requires.clock; is = refl } in
    let under : ConditionIs d c.args.b (get_or (conditions (conditions_in d)) c.args.b falsity) = record { there = c.requires.under; is = refl } in
    let g4 = grows_twice i3.grows i4.grows in
    let hit = condition_as (ap₂ conjunction (keep_condition i1.grows clock).is (keep_condition i1.grows under).is) i2.is in
    let wait = sequence_as (ap condition (keep_condition i2.grows i1.is).is) i3.is in
    let waits = sequence_as (ap star wait.is) i4.is in
    let last = sequence_as (ap condition (keep_condition g4 hit).is) i5.is in
    record {
      grows = grows_twice i1.grows (grows_twice i2.grows (grows_twice g4 (grows_twice i5.grows i6.grows)));
      is = sequence_as (ap₂ concat (keep_sequence i5.grows waits).is last.is) i6.is;
      counts = (omega arith, omega arith, omega arith);
    }
