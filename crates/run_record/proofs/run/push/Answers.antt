use Rattle.std.proofs.Common.{◌≡◌, ◌<◌, ◌≤◌, min, true, length, take, None, sym, refl, ap, ◌∙◌, ⊎_elim, arith, length-take}
use Rattle.std.proofs.lemmas.Bool.{lt-ltb, le-ltb, and_from, and_left, and_right, or_left, or_right, or_from}
use Rattle.run_record.specs.Runs.{continues, last_row}
use Rattle.run_record.proofs.Tally.{fits_told, same_told}
use Rattle.run_record.proofs.Pushes.{some_row, last_row_at, length_fits, longer_letters, pushed_letters}
use Rattle.run_record.proofs.run.push.Goals as goal

pub returns-then-old-ge-MOST_LETTERS : goal.returns-then-old-ge-MOST_LETTERS
returns-then-old-ge-MOST_LETTERS g c =
    let eq = g.K.PartialEq.eq in
    let rows = c.args.rows.now in
    record {
      made = (
        fits_told eq g.met.K.Kind.decided (take c.args.old.rows rows) c.args.old.letters _ _ c.requires.sound ∙ and_left _ _ (le-ltb _ _ c.if-old-ge-MOST_LETTERS.true),
        refl,
      );
    }

pub overflow_add-rows : goal.overflow_add-rows
overflow_add-rows g c =
    let eq = g.K.PartialEq.eq in
    let rows = c.args.rows.now in
    let within : c.args.old.rows ≤ length rows = omega (arith, c.requires.within) in
    let some = some_row eq rows c.args.old.rows c.args.old.letters within c.requires.sound _ (sym c.if-ends_in.ensures.value) in
    omega (arith, length_fits eq rows c.args.old.rows c.args.old.letters within c.requires.sound c.index-rows-used.result some c.index-rows-used.is)

pub returns-then-ends_in : goal.returns-then-ends_in
returns-then-ends_in g c =
    let eq = g.K.PartialEq.eq in
    let decided = g.met.K.Kind.decided in
    let rows = c.args.rows.now in
    let m = c.args.old.rows in
    let n = c.args.old.letters in
    let r = c.index-rows-used.result in
    let x = c.args.letter in
    let within : m ≤ length rows = omega (arith, c.requires.within) in
    let few : m ≤ 64 = omega (arith, c.requires.within) in
    let less : n < 512 = c.if-old-ge-MOST_LETTERS.false in
    let ends : continues eq (last_row None (take m rows)) x ≡ true = sym c.if-ends_in.ensures.value in
    let some = some_row eq rows m n within c.requires.sound x ends in
    let last = last_row_at rows m r some within c.index-rows-used.is in
    let same = same_told eq decided r.letter x (ap (λ o. continues eq o x) (sym last) ∙ ends) in
    record {
      made = (
        fits_told eq decided (take m rows) n _ x c.requires.sound ∙ and_from _ _ (lt-ltb _ _ less) (or_left _ _ ends),
        longer_letters eq rows m n within c.requires.sound r x some few less c.index-rows-used.is same,
      );
    }

pub returns-then-used-rows : goal.returns-then-used-rows
returns-then-used-rows g c =
    let eq = g.K.PartialEq.eq in
    let rows = c.args.rows.now in
    let m = c.args.old.rows in
    let n = c.args.old.letters in
    let within : m ≤ length rows = omega (arith, c.requires.within) in
    let less : n < 512 = c.if-old-ge-MOST_LETTERS.false in
    let free : length (take m rows) < min 64 (length rows) = simp length-take (omega (arith, c.if-used-rows.true, c.if-used-lt-MOST_RUNS.true)) in
    record {
      made = (
        fits_told eq g.met.K.Kind.decided (take m rows) n _ _ c.requires.sound
            ∙ and_from _ _ (lt-ltb _ _ less) (or_right _ _ (lt-ltb _ _ free)),
        pushed_letters eq rows m n within c.requires.sound c.args.letter c.if-used-lt-MOST_RUNS.true c.if-used-rows.true less
            (sym c.if-ends_in.ensures.value),
      );
    }

pub returns : goal.returns
returns g c =
    let rows = c.args.rows.now in
    let m = c.args.old.rows in
    let none : min 64 (length rows) ≤ m = ⊎_elim (λ h. omega (arith, h.1)) (λ h. omega (arith, h)) c.else-used-lt-MOST_RUNS.either in
    let full : min 64 (length rows) ≤ length (take m rows) = simp length-take (omega (arith, none, c.requires.within)) in
    record {
      made = (
        fits_told g.K.PartialEq.eq g.met.K.Kind.decided (take m rows) c.args.old.letters _ _ c.requires.sound
            ∙ and_right _ _ (or_from _ _ (sym c.if-ends_in.ensures.value) (le-ltb _ _ full)),
        refl,
      );
    }
