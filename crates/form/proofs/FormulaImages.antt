-- The image of a formula entry, over the images of its parts.
use Rattle.std.proofs.Common.{◌≡◌, ℕ, ◌<◌, true, ltb, List, length, get_or, take, Some, sym, refl, ap, ◌∙◌, subst, ap₂, arith, get_or-take}
use Rattle.std.specs.List.{slice_get}
use Rattle.std.proofs.lemmas.Option.{get_or_from_slice_get}
use Rattle.std.proofs.lemmas.Bool.{ltb-true, and_parts}
use Rattle.psl.specs.Syntax.{Condition, Formula, falsity, strong, weak, strong_sequence, weak_sequence, negated, conjoined, next, until, abort, implies}
use Rattle.psl.specs.Removal.{unclock}
use Rattle.form.specs.Draft.{on_tick_of}
use Rattle.psl.specs.Table.{conditions, sequences, formula_of, formulas, nothing}
use Rattle.psl.specs.declared.entry.Formula as entryF
use Rattle.psl.specs.declared.entry.Formula.TheVariants as f
use Rattle.psl.proofs.Grow.{grow_at}
use Rattle.file.specs.Operands.{formula_names}
use Rattle.property.specs.declared.place.Property.{Property}
use Rattle.property.specs.Place.{conditions_of, sequences_of, formulas_of, condition_trees, sequence_trees, formula_trees}
use Rattle.form.specs.Entries.{FormulaAt}
use Rattle.form.specs.declared.draft.Draft as code
use Rattle.form.specs.Draft.{conditions_in, sequences_in, formulas_in, AddedFormula, Built, formula_in}
use Rattle.form.specs.SequenceImages.{sequence_image, SequencePlaced}
use Rattle.form.specs.FormulaImages.{formula_image, ForParts, FormulaPlaced, WroteFormula}
use Rattle.form.specs.Pairs.{key, formula_adds_conditions, formula_adds_formulas}
use Rattle.form.proofs.Grown.{formula_as}

module _ (p : Property) where
  abbrev T : ℕ → Condition
  T c = get_or (condition_trees p) c falsity

  abbrev pub rewritten : entryF.Formula → ℕ → Formula
  rewritten (f.Strong a) c = unclock (T c) (strong (T a))
  rewritten (f.Weak a) c = unclock (T c) (weak (T a))
  rewritten (f.StrongSequence a) c = strong_sequence (sequence_image p a c)
  rewritten (f.WeakSequence a) c = weak_sequence (sequence_image p a c)
  rewritten (f.Not a) c = negated (formula_image p a c)
  rewritten (f.And a b) c = conjoined (formula_image p a c) (formula_image p b c)
  rewritten (f.Next a) c = on_tick_of (T c) (next (on_tick_of (T c) (formula_image p a c)))
  rewritten (f.Until a b) c = until (negated (conjoined (strong (T c)) (negated (formula_image p a c)))) (conjoined (strong (T c)) (formula_image p b c))
  rewritten (f.Abort a b) c = abort (formula_image p a c) (T b)
  rewritten (f.Implies a b) c = implies (sequence_image p a c) (formula_image p b c)
  rewritten (f.At a d) c = formula_image p a d

  module _ (i c : ℕ) (h : i < length (formulas_of p)) where
    pub tree_at : get_or (formula_trees p) i nothing ≡ formula_of (condition_trees p) (sequence_trees p) (take i (formula_trees p)) (get_or (formulas_of p) i (f.Strong 0))
    unfolding formula_trees formulas
    tree_at = grow_at (formula_of (condition_trees p) (sequence_trees p)) (f.Strong 0) nothing (formulas_of p) i h

    lower : (a d : ℕ) → ltb a i ≡ true → unclock (T d) (get_or (take i (formula_trees p)) a nothing) ≡ formula_image p a d
    lower a d l = ap (unclock (T d)) (get_or-take i (formula_trees p) a nothing (ltb-true a i l))

    rewritten_is : (n m : ℕ) (e : entryF.Formula) → formula_names n m i e ≡ true
        → unclock (T c) (formula_of (condition_trees p) (sequence_trees p) (take i (formula_trees p)) e) ≡ rewritten e c
    rewritten_is n m (f.Strong a) q = refl
    rewritten_is n m (f.Weak a) q = refl
    rewritten_is n m (f.StrongSequence a) q = refl
    rewritten_is n m (f.WeakSequence a) q = refl
    rewritten_is n m (f.Not a) q = ap negated (lower a c q)
    rewritten_is n m (f.And a b) q = let h = and_parts (ltb a i) (ltb b i) q in ap₂ conjoined (lower a c h.0) (lower b c h.1)
    rewritten_is n m (f.Next a) q = ap (λ x. on_tick_of (T c) (next (on_tick_of (T c) x))) (lower a c q)
    rewritten_is n m (f.Until a b) q =
        let h = and_parts (ltb a i) (ltb b i) q in
        ap₂ (λ x y. until (negated (conjoined (strong (T c)) (negated x))) (conjoined (strong (T c)) y)) (lower a c h.0) (lower b c h.1)
    rewritten_is n m (f.Abort a b) q = ap (λ x. abort x (T b)) (lower a c (and_parts (ltb a i) _ q).0)
    rewritten_is n m (f.Implies a b) q = ap (implies (sequence_image p a c)) (lower b c (and_parts (ltb a m) _ q).1)
    rewritten_is n m (f.At a d) q = lower a d (and_parts (ltb a i) _ q).0

    pub image_is : (e : entryF.Formula) → FormulaAt p i e → formula_image p i c ≡ rewritten e c
    image_is e told =
        ap (unclock (T c)) (tree_at ∙ ap (formula_of (condition_trees p) (sequence_trees p) (take i (formula_trees p))) (sym told.is))
        ∙ rewritten_is (length (conditions_of p)) (length (sequences_of p)) e told.names

    pub ready_at : (d : code.Draft) (rs fs : List ℕ) (e : entryF.Formula) → FormulaAt p i e → ForParts (FormulaPlaced p d fs) (SequencePlaced p d rs) (get_or (formulas_of p) i (f.Strong 0)) c → ForParts (FormulaPlaced p d fs) (SequencePlaced p d rs) e c
    ready_at d rs fs e told ready = subst (λ e. ForParts (FormulaPlaced p d fs) (SequencePlaced p d rs) e c) (sym told.is) ready

    module _ (d d' : code.Draft) (e : entryF.Formula) (told : FormulaAt p i e) where
      -- one entry that is the image
      pub wrote : (x : entryF.Formula) (r : ℕ) → AddedFormula d d' x r → formula_of (conditions (conditions_in d)) (sequences (conditions (conditions_in d)) (sequences_in d)) (formulas (conditions (conditions_in d)) (sequences (conditions (conditions_in d)) (sequences_in d)) (formulas_in d)) x ≡ rewritten e c
          → formula_adds_conditions e ≡ 0 → formula_adds_formulas e ≡ 1 → WroteFormula p i c d d' r
      wrote x r new same zero_c one_f =
          record {
            grows = new.grows;
            is = formula_as (same ∙ sym (image_is e told)) new.is;
            count_c = omega (arith, new.count_c, zero_c, ap formula_adds_conditions told.is);
            count_s = new.count_s;
            count_f = omega (arith, new.count_f, one_f, ap formula_adds_formulas told.is);
          }

      pub built : (t : Formula) (r nc nf : ℕ) → Built d d' t r nc nf → t ≡ rewritten e c → formula_adds_conditions e ≡ nc → formula_adds_formulas e ≡ nf → WroteFormula p i c d d' r
      built t r nc nf new same is_c is_f =
          record {
            grows = new.grows;
            is = formula_as (same ∙ sym (image_is e told)) new.is;
            count_c = omega (arith, new.count_c, is_c, ap formula_adds_conditions told.is);
            count_s = new.count_s;
            count_f = omega (arith, new.count_f, is_f, ap formula_adds_formulas told.is);
          }

  pub part : (d : code.Draft) (places : List ℕ) (k a b : ℕ) → slice_get places (key a b) ≡ Some k → FormulaPlaced p d places a b → formula_in d k ≡ formula_image p a b
  part d places k a b is placed = ap (formula_in d) (sym (get_or_from_slice_get places (key a b) k 0 is)) ∙ placed.is
