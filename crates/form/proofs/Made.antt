-- What a form place says for ever: where its root is, and what it is.
use Rattle.std.proofs.Common.{◌≡◌, ℕ, ◌-◌, ◌<◌, true, ltb, ◌⊎◌, ◌↔◌, List, [], ◌∷◌, length, get_or, sym, refl, ap, ◌∙◌, subst, ap₂, inl, inr, ⊎_elim, arith}
use native.Mathlib.Decide.{ℕ_discrete}
use Rattle.std.proofs.lemmas.Bool.{ltb-true, lt-ltb, eqb-true, eq-eqb, and_parts, and_from, or_cases, or_left, or_right}
use Rattle.psl.specs.Syntax.{Formula, truth, falsity, weak, Condition-discrete, Sequence-discrete, Formula-discrete}
use Rattle.psl.specs.Unclocked.{UnclockedSatisfies}
use Rattle.psl.specs.Removal.{unclock}
use Rattle.psl.specs.Table.{conditions, sequences, formulas, nothing}
use Rattle.psl.specs.declared.entry.Condition as entryC
use Rattle.psl.specs.declared.entry.Condition.TheVariants.{True}
use Rattle.psl.specs.declared.entry.Sequence as entryS
use Rattle.psl.specs.declared.entry.Formula as entryF
use Rattle.psl.specs.declared.entry.Formula.TheVariants.{Weak}
use Rattle.property.specs.declared.place.Property.{Property}
use Rattle.property.specs.Place.{conditions_of, sequences_of, formulas_of, condition_trees, sequence_trees, formula_trees, property_tree}
use Rattle.form.specs.declared.draft.Draft as code
use Rattle.form.specs.declared.place.Form.{Form}
use Rattle.form.specs.Draft.{formulas_in, formula_in}
use Rattle.form.specs.FormulaImages.{formula_image}
use Rattle.form.specs.Made.{answer, same_formula, rewriting, rewrites, as_new, made}
use Rattle.form.specs.Rewritten.{Rewritten}
use Rattle.form.specs.Origins.{FromImages}
use Rattle.form.specs.Place.{form_conditions, form_sequences, form_formulas, form_root, source, form_tree, MadeFrom, Stands, Agrees}
use Rattle.form.proofs.Origins.{from_images}
use Rattle.form.proofs.NewForm.{new_agrees}

yes_path : {A : Type 0} (d : Dec A) → answer d ≡ true → A
yes_path (yes p) e = p
yes_path (no p) e = let z : ◌≡◌ {A = ℕ} 0 1 = cc in let w : ⊥ = omega arith in absurd w

path_yes : {A : Type 0} (d : Dec A) → A → answer d ≡ true
path_yes (yes p) a = refl
path_yes (no p) a = absurd (p a)

-- the test of two trees stands for their equality
same_true : (f g : Formula) → same_formula f g ≡ true → f ≡ g
unfolding same_formula
same_true f g e = yes_path (Formula-discrete (Condition-discrete ℕ_discrete) (Sequence-discrete (Condition-discrete ℕ_discrete)) f g) e

pub true_same : (f g : Formula) → f ≡ g → same_formula f g ≡ true
unfolding same_formula
true_same f g e = path_yes (Formula-discrete (Condition-discrete ℕ_discrete) (Sequence-discrete (Condition-discrete ℕ_discrete)) f g) e

-- the property's image under condition 0 is its rewriting
pub image_rewriting : (p : Property) → formula_image p (length (formulas_of p) - 1) 0 ≡ rewriting p
unfolding rewriting property_tree
image_rewriting p = refl

pub rewritten_made : (p : Property) (d : code.Draft) (root : ℕ) → Rewritten p d root → made p d root ≡ true
unfolding made rewrites
rewritten_made p d root is =
    and_from _ _ (lt-ltb root (length (formulas_in d)) is.is.there)
    (or_left (rewrites p d root) _
    (and_from _ _ (true_same _ _ (is.is.is ∙ image_rewriting p))
    (and_from _ _ (eq-eqb _ _ is.count_c) (and_from _ _ (eq-eqb _ _ is.count_s) (eq-eqb _ _ is.count_f)))))

pub new_made : (p : Property) (d : code.Draft) (root : ℕ) → root < length (formulas_in d) → formula_in d root ≡ weak truth → rewriting p ≡ unclock truth (weak truth) → made p d root ≡ true
unfolding made as_new
new_made p d root there tree new =
    and_from _ _ (lt-ltb root (length (formulas_in d)) there)
    (or_right (rewrites p d root) (as_new p d root) (and_from (same_formula (formula_in d root) (weak truth)) _ (true_same _ _ tree) (true_same _ _ new)))

-- a new property's rewriting is that of the weak condition true under the clock true
pub new_rewriting : (p : Property) → conditions_of p ≡ True ∷ [] → sequences_of p ≡ [] → formulas_of p ≡ Weak 0 ∷ [] → rewriting p ≡ unclock truth (weak truth)
unfolding rewriting property_tree formula_trees sequence_trees condition_trees conditions sequences formulas
new_rewriting p cs rs fs =
    ap (λ es. unclock (get_or (conditions es) 0 falsity) (tree es (sequences_of p) (formulas_of p))) cs
    ∙ ap₂ (λ es xs. unclock truth (tree (True ∷ []) es xs)) rs fs
  where
    tree : List entryC.Condition → List entryS.Sequence → List entryF.Formula → Formula
    tree es xs ys = get_or (formulas (conditions es) (sequences (conditions es) xs) ys) (length ys - 1) nothing

module _ (f : Form) where
  parts : (f.rooted.root < length (formulas_in f.rooted.draft)) × ((rewrites f.property f.rooted.draft f.rooted.root ≡ true) ⊎ (as_new f.property f.rooted.draft f.rooted.root ≡ true))
  unfolding made
  parts =
      let both = and_parts (ltb f.rooted.root (length (formulas_in f.rooted.draft))) _ f.made in
      (ltb-true _ _ both.0, or_cases _ _ both.1)

  pub root_there : f.rooted.root < length (form_formulas f)
  unfolding form_formulas
  root_there = parts.0

  from_source : rewrites f.property f.rooted.draft f.rooted.root ≡ true → MadeFrom (source f) f
  unfolding rewrites form_tree form_conditions form_sequences form_formulas form_root source
  from_source is =
      let a = and_parts (same_formula (formula_in f.rooted.draft f.rooted.root) (rewriting f.property)) _ is in
      let b = and_parts _ _ a.1 in
      let c = and_parts _ _ b.1 in
      record {
        source = refl;
        tree = same_true _ _ a.0;
        conditions = eqb-true _ _ b.0;
        sequences = eqb-true _ _ c.0;
        formulas = eqb-true _ _ c.1;
      }

  new_tree : as_new f.property f.rooted.draft f.rooted.root ≡ true → (form_tree f ≡ weak truth) × (rewriting (source f) ≡ unclock truth (weak truth))
  unfolding as_new form_tree form_conditions form_sequences form_formulas form_root source
  new_tree is =
      let both = and_parts (same_formula (formula_in f.rooted.draft f.rooted.root) (weak truth)) _ is in
      (same_true _ _ both.0, same_true _ _ both.1)

  pub stands : Stands f
  stands = ⊎_elim (λ is. inl (from_source is)) (λ is. inr (new_tree is).0) parts.1

  pub agrees : Agrees f
  agrees w =
      ⊎_elim
      (λ is. subst (λ t. UnclockedSatisfies t w ↔ UnclockedSatisfies (rewriting (source f)) w) (sym (from_source is).tree) ((λ x. x), (λ x. x)))
      (λ is. let new = new_tree is in
      subst (λ t. UnclockedSatisfies t w ↔ UnclockedSatisfies (rewriting (source f)) w) (sym new.0)
      (subst (λ t. UnclockedSatisfies (weak truth) w ↔ UnclockedSatisfies t w) (sym new.1) (new_agrees w)))
      parts.1

  pub comes_from_images : FromImages (form_tree f)
  comes_from_images =
      ⊎_elim
      (λ is. subst FromImages (sym (from_source is).tree) (from_images (source f)))
      (λ is. subst FromImages (sym (new_tree is).0) tt)
      parts.1

-- a form whose draft is rewritten from its property
pub from_rewritten : (f : Form) → Rewritten f.property f.rooted.draft f.rooted.root → MadeFrom f.property f
unfolding form_tree form_conditions form_sequences form_formulas form_root source
from_rewritten f is =
    record {
      source = refl;
      tree = is.is.is ∙ image_rewriting f.property;
      conditions = is.count_c;
      sequences = is.count_s;
      formulas = is.count_f;
    }

-- what a form place's promises rest on
pub ruleset known = (root_there, stands, agrees, comes_from_images, from_rewritten)
