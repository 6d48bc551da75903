use Rattle.std.proofs.Common.{◌-◌, ◌*◌, ◌<◌, length, sym, ap, subst, arith}
use Rattle.std.proofs.lemmas.Option.{get_or_from_slice_get}
use Rattle.psl.specs.declared.entry.Sequence.TheVariants as s
use Rattle.psl.specs.declared.entry.Formula.TheVariants as f
use Rattle.property.specs.Place.{sequences_of, formulas_of}
use Rattle.property.proofs.Held.{some_formulas}
use Rattle.form.specs.Pairs.{total, key, sequence_adds_conditions, sequence_adds_sequences, formula_adds_conditions, formula_adds_formulas}
use Rattle.form.specs.Draft.{FormulaIs}
use Rattle.form.specs.SequenceImages.{SequencesClosed, Marked}
use Rattle.form.specs.FormulaImages.{FormulasClosed, formula_image}
use Rattle.form.specs.Met.{met}
use Rattle.form.specs.Limits.{conditions_needed, sequences_needed, formulas_needed}
use Rattle.form.proofs.MetPairs.{met_least}
use Rattle.form.proofs.rewrite.rewrite.Goals as goal

pub write_sequences-requires : goal.write_sequences-requires
unfolding conditions_needed sequences_needed
write_sequences-requires c =
    let p = c.args.p.now in
    let n = 64 * length (sequences_of p) in
    let is = ap (λ m. m.sequences) c.requires.met in
    let more_c = ap (λ m. total (s.Condition 0) sequence_adds_conditions (sequences_of p) m n) is in
    let more_s = ap (λ m. total (s.Condition 0) sequence_adds_sequences (sequences_of p) m n) is in
    let begun = c.fresh-draft.ensures in
    record {
      carries = begun.carries;
      closed = subst (SequencesClosed p) (sym is) (met_least p).closed.sequences;
      room = (omega (arith, begun.count_c, c.requires.room.conditions, more_c), omega (arith, begun.count_s, c.requires.room.sequences, more_s));
    }

pub write_formulas-requires : goal.write_formulas-requires
unfolding conditions_needed formulas_needed
write_formulas-requires c =
    let p = c.args.p.now in
    let m = 64 * length (formulas_of p) in
    let is_f = ap (λ m. m.formulas) c.requires.met in
    let is_s = ap (λ m. m.sequences) c.requires.met in
    let from_s = ap (λ x. total (s.Condition 0) sequence_adds_conditions (sequences_of p) x (64 * length (sequences_of p))) is_s in
    let more_c = ap (λ x. total (f.Strong 0) formula_adds_conditions (formulas_of p) x m) is_f in
    let more_f = ap (λ x. total (f.Strong 0) formula_adds_formulas (formulas_of p) x m) is_f in
    let begun = c.fresh-draft.ensures in
    let low = c.write_sequences.ensures in
    record {
      carries = low.1;
      closed = subst (λ x. FormulasClosed p x c.args.met.now.sequences.cells) (sym is_f) (subst (FormulasClosed p (met p).formulas) (sym is_s) (met_least p).closed.formulas);
      written = low.2;
      room = (omega (arith, low.3, begun.count_c, c.requires.room.conditions, from_s, more_c), omega (arith, low.5, begun.count_f, c.requires.room.formulas, more_f));
    }

pub returns : goal.returns
unfolding conditions_needed sequences_needed formulas_needed
returns c =
    let p = c.args.p.now in
    let n = 64 * length (sequences_of p) in
    let m = 64 * length (formulas_of p) in
    let is_f = ap (λ m. m.formulas) c.requires.met in
    let is_s = ap (λ m. m.sequences) c.requires.met in
    let from_c = ap (λ x. total (s.Condition 0) sequence_adds_conditions (sequences_of p) x n) is_s in
    let from_s = ap (λ x. total (s.Condition 0) sequence_adds_sequences (sequences_of p) x n) is_s in
    let more_c = ap (λ x. total (f.Strong 0) formula_adds_conditions (formulas_of p) x m) is_f in
    let more_f = ap (λ x. total (f.Strong 0) formula_adds_formulas (formulas_of p) x m) is_f in
    let begun = c.fresh-draft.ensures in
    let low = c.write_sequences.ensures in
    let stand = c.write_formulas.ensures in
    let places = c.write_formulas.new.places.cells in
    let root : Marked c.args.met.now.formulas.cells (length (formulas_of p) - 1) 0 = subst (λ x. Marked x (length (formulas_of p) - 1) 0) (sym is_f) (met_least p).closed.root in
    let inside : key (length (formulas_of p) - 1) 0 < m = omega (arith, some_formulas p) in
    record {
      count_c = omega (arith, stand.3, low.3, begun.count_c, from_c, more_c);
      count_s = omega (arith, stand.6, low.4, begun.count_s, from_s);
      count_f = omega (arith, stand.4, low.5, begun.count_f, more_f);
      is = subst (λ r. FormulaIs c.write_formulas.new.d r (formula_image p (length (formulas_of p) - 1) 0))
          (get_or_from_slice_get places _ _ 0 (rw (c.root_pair.ensures.entry, c.root_pair.ensures.clock) at c.get-root.ensures))
          (stand.2 (length (formulas_of p) - 1) 0 (omega arith) inside root);
    }
