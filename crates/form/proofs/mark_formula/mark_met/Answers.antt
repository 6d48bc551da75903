use Rattle.std.proofs.Common.{◌≡◌, ◌-◌, ◌*◌, true, length, set, ap, ◌∙◌, ap₂}
use Rattle.property.specs.Place.{sequences_of, formulas_of}
use Rattle.form.specs.Pairs.{key}
use Rattle.form.specs.Grid.{cells_of, marks_of}
use Rattle.form.specs.Met.{marks, meet_formulas, meet_sequences, root_marked, formulas_met, met}
use Rattle.form.proofs.mark_formula.mark_met.Goals as goal

pub returns : goal.returns
unfolding met formulas_met
returns c =
    let p = c.args.p.now in
    let start : marks (cells_of c.put.new.self) (cells_of c.args.met.now.sequences) ≡ root_marked p =
    ap₂ marks
    ((rw (c.root_pair.ensures.entry, c.root_pair.ensures.clock) at c.put.ensures) ∙ ap (λ xs. set xs (key (length (formulas_of p) - 1) 0) true) c.requires.blank_formulas)
    c.requires.blank_sequences
    in
    let made : marks_of c.mark_formulas.new.met ≡ formulas_met p =
    c.mark_formulas.ensures ∙ ap (meet_formulas (formulas_of p) (64 * length (formulas_of p))) start
    in
    ap₂ marks (ap (λ m. m.formulas) made)
    (c.mark_sequences.ensures ∙ ap (λ m. meet_sequences (sequences_of p) (64 * length (sequences_of p)) m.sequences) made)
