use Rattle.std.proofs.Common.{◌≡◌, ◌<◌, ltb, length, sym, refl, ap, ◌∙◌, subst, ap₂, arith}
use Rattle.std.proofs.lemmas.Option.{get_or_from_slice_get}
use Rattle.std.proofs.lemmas.Bool.{ltb-true, lt-ltb, and_parts, and_from}
use Rattle.psl.specs.Syntax.{Condition, Formula, strong, weak, strong_sequence, weak_sequence, negated, conjoined, next, until, abort, implies}
use Rattle.psl.specs.Removal.{unclock}
use Rattle.form.specs.Draft.{on_tick_of}
use Rattle.psl.specs.declared.entry.Formula.TheVariants as f
use Rattle.form.specs.Draft.{FormulaIs, formulas_in}
use Rattle.form.specs.FormulaImages.{formula_image}
use Rattle.form.specs.Pairs.{key, formula_adds_conditions, formula_adds_formulas}
use Rattle.form.proofs.Grown.{grows_none, formula_as}
use Rattle.form.proofs.SequenceImages.{operand}
use Rattle.form.proofs.FormulaImages.{wrote, built, ready_at, part, image_is}
use Rattle.form.proofs.write_formula.write_formula.Goals as goal

until_same : {t u : Condition} {x y v w : Formula} → t ≡ u → x ≡ y → v ≡ w
    → until (negated (conjoined (strong t) (negated x))) (conjoined (strong t) v) ≡ until (negated (conjoined (strong u) (negated y))) (conjoined (strong u) w)
until_same {u = u} {x = x} {v = v} e g h = ap (λ t. until (negated (conjoined (strong t) (negated x))) (conjoined (strong t) v)) e ∙ ap₂ (λ x v. until (negated (conjoined (strong u) (negated x))) (conjoined (strong u) v)) g h

pub add_formula-requires-in-Abort : goal.add_formula-requires-in-Abort
add_formula-requires-in-Abort c =
    let told = c.in-Abort.ensures in
    let ready = ready_at c.args.p.now c.args.pair.entry c.args.pair.clock c.requires.there c.args.d.now c.args.rs.now.cells c.args.fs.now.cells (f.Abort c.in-Abort.f c.in-Abort.b) told c.requires.ready in
    let named = and_parts (ltb c.in-Abort.f c.args.pair.entry) _ told.names in
    record {
      room = omega (arith, c.requires.room.1, ap formula_adds_formulas told.is);
      names = and_from _ _ (lt-ltb _ _ (subst (λ x. x < length (formulas_in c.args.d.now)) (get_or_from_slice_get c.args.fs.now.cells (key c.in-Abort.f c.args.pair.clock) _ 0 (rw (c.with-in-Abort.ensures.entry, c.with-in-Abort.ensures.clock) at c.get-in-Abort.ensures)) ready.there)) (lt-ltb _ _ (c.requires.carries c.in-Abort.b (ltb-true _ _ named.1)).there);
    }

pub returns-in-Strong : goal.returns-in-Strong
returns-in-Strong c =
    let p = c.args.p.now in
    let d = c.args.d.now in
    let i = c.args.pair.entry in
    let k = c.args.pair.clock in
    let rs = c.args.rs.now.cells in
    let fs = c.args.fs.now.cells in
    let there = c.requires.there in
    let told = c.in-Strong.ensures in
    let e = f.Strong c.in-Strong.b in
    let clock = c.requires.carries k c.requires.clock in
    let under = c.requires.carries c.in-Strong.b (ltb-true _ _ told.names) in
    built p i k there d _ e told _ _ _ _ c.add_strong.ensures (ap₂ (λ t u. unclock t (strong u)) clock.is under.is) refl refl

pub returns-in-Weak : goal.returns-in-Weak
returns-in-Weak c =
    let p = c.args.p.now in
    let d = c.args.d.now in
    let i = c.args.pair.entry in
    let k = c.args.pair.clock in
    let rs = c.args.rs.now.cells in
    let fs = c.args.fs.now.cells in
    let there = c.requires.there in
    let told = c.in-Weak.ensures in
    let e = f.Weak c.in-Weak.b in
    let clock = c.requires.carries k c.requires.clock in
    let under = c.requires.carries c.in-Weak.b (ltb-true _ _ told.names) in
    built p i k there d _ e told _ _ _ _ c.add_weak.ensures (ap₂ (λ t u. unclock t (weak u)) clock.is under.is) refl refl

pub returns-in-StrongSequence : goal.returns-in-StrongSequence
returns-in-StrongSequence c =
    let p = c.args.p.now in
    let d = c.args.d.now in
    let i = c.args.pair.entry in
    let k = c.args.pair.clock in
    let rs = c.args.rs.now.cells in
    let fs = c.args.fs.now.cells in
    let there = c.requires.there in
    let told = c.in-StrongSequence.ensures in
    let e = f.StrongSequence c.in-StrongSequence.r in
    let ready = ready_at p i k there d rs fs e told c.requires.ready in
    wrote p i k there d _ e told _ _ c.add_formula.ensures (ap strong_sequence (operand p d rs _ _ _ (rw (c.with.ensures.entry, c.with.ensures.clock) at c.get.ensures) (ready))) refl refl

pub returns-in-WeakSequence : goal.returns-in-WeakSequence
returns-in-WeakSequence c =
    let p = c.args.p.now in
    let d = c.args.d.now in
    let i = c.args.pair.entry in
    let k = c.args.pair.clock in
    let rs = c.args.rs.now.cells in
    let fs = c.args.fs.now.cells in
    let there = c.requires.there in
    let told = c.in-WeakSequence.ensures in
    let e = f.WeakSequence c.in-WeakSequence.r in
    let ready = ready_at p i k there d rs fs e told c.requires.ready in
    wrote p i k there d _ e told _ _ c.add_formula-in-WeakSequence.ensures (ap weak_sequence (operand p d rs _ _ _ (rw (c.with-in-WeakSequence.ensures.entry, c.with-in-WeakSequence.ensures.clock) at c.get-in-WeakSequence.ensures) (ready))) refl refl

pub returns-in-Not : goal.returns-in-Not
returns-in-Not c =
    let p = c.args.p.now in
    let d = c.args.d.now in
    let i = c.args.pair.entry in
    let k = c.args.pair.clock in
    let rs = c.args.rs.now.cells in
    let fs = c.args.fs.now.cells in
    let there = c.requires.there in
    let told = c.in-Not.ensures in
    let e = f.Not c.in-Not.f in
    let ready = ready_at p i k there d rs fs e told c.requires.ready in
    wrote p i k there d _ e told _ _ c.add_formula-in-Not.ensures (ap negated (part p d fs _ _ _ (rw (c.with-in-Not.ensures.entry, c.with-in-Not.ensures.clock) at c.get-in-Not.ensures) (ready))) refl refl

pub returns-in-And : goal.returns-in-And
returns-in-And c =
    let p = c.args.p.now in
    let d = c.args.d.now in
    let i = c.args.pair.entry in
    let k = c.args.pair.clock in
    let rs = c.args.rs.now.cells in
    let fs = c.args.fs.now.cells in
    let there = c.requires.there in
    let told = c.in-And.ensures in
    let e = f.And c.in-And.f c.in-And.g in
    let ready = ready_at p i k there d rs fs e told c.requires.ready in
    wrote p i k there d _ e told _ _ c.add_formula-in-And.ensures (ap₂ conjoined (part p d fs _ _ _ (rw (c.with-in-And.ensures.entry, c.with-in-And.ensures.clock) at c.get-in-And.ensures) ready.0) (part p d fs _ _ _ (rw (c.with-in-And-2.ensures.entry, c.with-in-And-2.ensures.clock) at c.get-in-And-2.ensures) ready.1)) refl refl

pub returns-in-Next : goal.returns-in-Next
returns-in-Next c =
    let p = c.args.p.now in
    let d = c.args.d.now in
    let i = c.args.pair.entry in
    let k = c.args.pair.clock in
    let rs = c.args.rs.now.cells in
    let fs = c.args.fs.now.cells in
    let there = c.requires.there in
    let told = c.in-Next.ensures in
    let e = f.Next c.in-Next.f in
    let ready = ready_at p i k there d rs fs e told c.requires.ready in
    let clock = c.requires.carries k c.requires.clock in
    built p i k there d _ e told _ _ _ _ c.add_next.ensures (ap₂ (λ t x. on_tick_of t (next (on_tick_of t x))) clock.is (part p d fs _ _ _ (rw (c.with-in-Next.ensures.entry, c.with-in-Next.ensures.clock) at c.get-in-Next.ensures) (ready))) refl refl

pub returns-in-Until : goal.returns-in-Until
returns-in-Until c =
    let p = c.args.p.now in
    let d = c.args.d.now in
    let i = c.args.pair.entry in
    let k = c.args.pair.clock in
    let rs = c.args.rs.now.cells in
    let fs = c.args.fs.now.cells in
    let there = c.requires.there in
    let told = c.in-Until.ensures in
    let e = f.Until c.in-Until.f c.in-Until.g in
    let ready = ready_at p i k there d rs fs e told c.requires.ready in
    let clock = c.requires.carries k c.requires.clock in
    built p i k there d _ e told _ _ _ _ c.add_until.ensures
    (until_same clock.is (part p d fs _ _ _ (rw (c.with-in-Until.ensures.entry, c.with-in-Until.ensures.clock) at c.get-in-Until.ensures) ready.0) (part p d fs _ _ _ (rw (c.with-in-Until-2.ensures.entry, c.with-in-Until-2.ensures.clock) at c.get-in-Until-2.ensures) ready.1)) refl refl

pub returns-in-Abort : goal.returns-in-Abort
returns-in-Abort c =
    let p = c.args.p.now in
    let d = c.args.d.now in
    let i = c.args.pair.entry in
    let k = c.args.pair.clock in
    let rs = c.args.rs.now.cells in
    let fs = c.args.fs.now.cells in
    let there = c.requires.there in
    let told = c.in-Abort.ensures in
    let e = f.Abort c.in-Abort.f c.in-Abort.b in
    let ready = ready_at p i k there d rs fs e told c.requires.ready in
    let under = c.requires.carries c.in-Abort.b (ltb-true _ _ (and_parts (ltb c.in-Abort.f i) _ told.names).1) in
    wrote p i k there d _ e told _ _ c.add_formula-in-Abort.ensures (ap₂ abort (part p d fs _ _ _ (rw (c.with-in-Abort.ensures.entry, c.with-in-Abort.ensures.clock) at c.get-in-Abort.ensures) (ready)) under.is) refl refl

pub returns-in-Implies : goal.returns-in-Implies
returns-in-Implies c =
    let p = c.args.p.now in
    let d = c.args.d.now in
    let i = c.args.pair.entry in
    let k = c.args.pair.clock in
    let rs = c.args.rs.now.cells in
    let fs = c.args.fs.now.cells in
    let there = c.requires.there in
    let told = c.in-Implies.ensures in
    let e = f.Implies c.in-Implies.r c.in-Implies.g in
    let ready = ready_at p i k there d rs fs e told c.requires.ready in
    wrote p i k there d _ e told _ _ c.add_formula-in-Implies.ensures (ap₂ implies (operand p d rs _ _ _ (rw (c.with-in-Implies.ensures.entry, c.with-in-Implies.ensures.clock) at c.get-in-Implies.ensures) ready.0) (part p d fs _ _ _ (rw (c.with-in-Implies-2.ensures.entry, c.with-in-Implies-2.ensures.clock) at c.get-in-Implies-2.ensures) ready.1)) refl refl

pub returns-in-At : goal.returns-in-At
returns-in-At c =
    let p = c.args.p.now in
    let d = c.args.d.now in
    let i = c.args.pair.entry in
    let k = c.args.pair.clock in
    let rs = c.args.rs.now.cells in
    let fs = c.args.fs.now.cells in
    let there = c.requires.there in
    let told = c.in-At.ensures in
    let e = f.At c.in-At.f c.in-At.e in
    let ready = ready_at p i k there d rs fs e told c.requires.ready in
    record {
      grows = grows_none d;
      is = subst (λ r. FormulaIs d r (formula_image p i k)) (get_or_from_slice_get fs (key c.in-At.f c.in-At.e) _ 0 c.get-in-At.ensures) (formula_as (sym (image_is p i k there e told)) ready);
      count_c = omega (arith, ap formula_adds_conditions told.is);
      count_s = refl;
      count_f = omega (arith, ap formula_adds_formulas told.is);
    }
