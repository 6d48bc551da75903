use Rattle.std.proofs.Common.{◌≡◌, ℕ, ◌*◌, length, ap, ap₂, ◌∙◌, arith}
use Rattle.psl.specs.declared.entry.Sequence as entryS
use Rattle.psl.specs.declared.entry.Sequence.TheVariants as s
use Rattle.psl.specs.declared.entry.Formula as entryF
use Rattle.psl.specs.declared.entry.Formula.TheVariants as f
use Rattle.form.specs.Pairs.{total, sequence_adds_conditions, sequence_adds_sequences, formula_adds_conditions, formula_adds_formulas}
use Rattle.form.specs.Limits.{sequences_add, formulas_add, conditions_needed, sequences_needed, formulas_needed}
use Rattle.form.proofs.count.count.Goals as goal

pub returns : goal.returns
unfolding conditions_needed sequences_needed formulas_needed
returns c =
    let p = c.args.p.now in
    let of_s : (adds : entryS.Sequence → ℕ) → total (s.Condition 0) adds c.sequences.result.now c.args.met.now.sequences.cells (64 * length c.sequences.result.now) ≡ sequences_add adds p =
    λ adds. ap₂ (λ es m. total (s.Condition 0) adds es m (64 * length es)) c.sequences.ensures.value (ap (λ m. m.sequences) c.requires.met) in
    let of_f : (adds : entryF.Formula → ℕ) → total (f.Strong 0) adds c.formulas.result.now c.args.met.now.formulas.cells (64 * length c.formulas.result.now) ≡ formulas_add adds p =
    λ adds. ap₂ (λ es m. total (f.Strong 0) adds es m (64 * length es)) c.formulas.ensures.value (ap (λ m. m.formulas) c.requires.met) in
    let first = c.count_added-of_sequences.ensures in
    let second = c.count_added-of_formulas.ensures in
    record {
      conditions = omega (arith, c.condition_count.ensures.value, first.conditions, of_s sequence_adds_conditions, second.conditions, of_f formula_adds_conditions);
      sequences = first.entries ∙ of_s sequence_adds_sequences;
      formulas = second.entries ∙ of_f formula_adds_formulas;
    }
