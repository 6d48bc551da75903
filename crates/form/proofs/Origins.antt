-- The parts of a property's rewriting come from the property.
use Rattle.std.proofs.Common.{◌≡◌, ℕ, zero, suc, ◌-◌, ◌<◌, ◌≤◌, true, ltb, List, [], map, length, get_or, take, Some, sym, refl, ap, ◌∙◌, subst, arith, get_or-take}
use Rattle.std.specs.List.{slice_get}
use Rattle.std.specs.Option.{option_map}
use Rattle.std.proofs.lemmas.Option.{slice_get-map, slice_get-get_or}
use Rattle.std.proofs.lemmas.Bool.{ltb-true, and_parts}
use Rattle.psl.specs.Syntax.{Condition, Sequence, Formula, empty, falsity, strong, weak, strong_sequence, weak_sequence, negated, conjoined, next, until, abort, implies, formula_at}
use Rattle.psl.specs.Table.{sequence_of, sequences, formula_of, nothing, size}
use Rattle.psl.specs.Removal.{unclock}
use Rattle.psl.specs.declared.entry.Formula as entryF
use Rattle.psl.specs.declared.entry.Formula.TheVariants as f
use Rattle.psl.proofs.Grow.{length_grow}
use Rattle.file.specs.Operands.{formula_names}
use Rattle.property.specs.declared.place.Property.{Property}
use Rattle.property.specs.Place.{conditions_of, sequences_of, formulas_of, condition_trees, sequence_trees, formula_trees, property_tree}
use Rattle.property.proofs.Held.{size_fine}
use Rattle.property.proofs.Trees.{sizes_of_trees}
use Rattle.form.specs.Origins.{FromImages, Sized}
use Rattle.form.specs.Made.{rewriting}
use Rattle.form.proofs.Held.{held_formula}
use Rattle.property.proofs.Held.{some_formulas}
use Rattle.form.proofs.FormulaImages.{tree_at}

-- the image of a formula whose sequences are small
pub images : (c : Condition) (f : Formula) → Sized f → FromImages (unclock c f)
images c (strong b) h = (tt, tt)
images c (weak b) h = (tt, tt)
images c (strong_sequence r) h = (c, r, h, refl)
images c (weak_sequence r) h = (c, r, h, refl)
images c (negated f) h = images c f h
images c (conjoined f g) h = (images c f h.0, images c g h.1)
images c (next f) h = (tt, (tt, (tt, (tt, images c f h))))
images c (until f g) h = ((tt, images c f h.0), (tt, images c g h.1))
images c (abort f b) h = (images c f h, (c, f, refl))
images c (implies r f) h = ((c, r, h.0, refl), images c f h.1)
images c (formula_at f d) h = images d f h

nth_sized : (rs : List Sequence) (a : ℕ) → a < length rs → slice_get (map size rs) a ≡ Some (size (get_or rs a empty))
nth_sized rs a h = slice_get-map size rs a ∙ ap (option_map size) (slice_get-get_or rs a empty h)

module _ (p : Property) where
  tree_count : length (sequence_trees p) ≡ length (sequences_of p)
  unfolding sequence_trees sequences
  tree_count = let e = length_grow (sequence_of (condition_trees p)) [] (sequences_of p) in omega (arith, e)

  small_sequence : (a : ℕ) → a < length (sequences_of p) → size (get_or (sequence_trees p) a empty) ≤ 240
  unfolding sequence_trees
  small_sequence a h =
      size_fine p a _ (ap (λ zs. slice_get zs a) (sizes_of_trees (condition_trees p) (sequences_of p)) ∙ nth_sized (sequence_trees p) a (omega (arith, tree_count)))

  -- the tree of an entry whose operands are lower
  sized_entry : (n i : ℕ) (fs : List Formula) (e : entryF.Formula) → formula_names n (length (sequences_of p)) i e ≡ true
      → ((a : ℕ) → a < i → Sized (get_or fs a nothing)) → Sized (formula_of (condition_trees p) (sequence_trees p) fs e)
  sized_entry n i fs (f.Strong a) q low = tt
  sized_entry n i fs (f.Weak a) q low = tt
  sized_entry n i fs (f.StrongSequence a) q low = small_sequence a (ltb-true a _ q)
  sized_entry n i fs (f.WeakSequence a) q low = small_sequence a (ltb-true a _ q)
  sized_entry n i fs (f.Not a) q low = low a (ltb-true a i q)
  sized_entry n i fs (f.And a b) q low = let h = and_parts (ltb a i) (ltb b i) q in (low a (ltb-true a i h.0), low b (ltb-true b i h.1))
  sized_entry n i fs (f.Next a) q low = low a (ltb-true a i q)
  sized_entry n i fs (f.Until a b) q low = let h = and_parts (ltb a i) (ltb b i) q in (low a (ltb-true a i h.0), low b (ltb-true b i h.1))
  sized_entry n i fs (f.Abort a b) q low = low a (ltb-true a i (and_parts (ltb a i) _ q).0)
  sized_entry n i fs (f.Implies a b) q low =
      let h = and_parts (ltb a (length (sequences_of p))) (ltb b i) q in (small_sequence a (ltb-true a _ h.0), low b (ltb-true b i h.1))
  sized_entry n i fs (f.At a b) q low = low a (ltb-true a i (and_parts (ltb a i) _ q).0)

  sized_below : (n i : ℕ) → i < n → i < length (formulas_of p) → Sized (get_or (formula_trees p) i nothing)
  sized_below zero i l h = let z : ⊥ = omega arith in absurd z
  sized_below (suc n) i l h =
      subst Sized (sym (tree_at p i 0 h))
      (sized_entry (length (conditions_of p)) i (take i (formula_trees p)) _ (held_formula p i h).names
      (λ a m. subst Sized (sym (get_or-take i (formula_trees p) a nothing m)) (sized_below n a (omega arith) (omega arith))))

  pub from_images : FromImages (rewriting p)
  unfolding rewriting property_tree
  from_images =
      images (get_or (condition_trees p) 0 falsity) (get_or (formula_trees p) (length (formulas_of p) - 1) nothing)
      (sized_below (length (formulas_of p)) (length (formulas_of p) - 1) (omega (arith, some_formulas p)) (omega (arith, some_formulas p)))
