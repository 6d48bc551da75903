-- What a form place holds: the rewriting of a property, or the new form.
use Rattle.std.specs.Prelude.{ℕ, Bool, true, false, ◌&&◌, ◌||◌, ◌==◌, length, nat_lt, slice_index_or}
use Rattle.std.proofs.Math.Decide.{ℕ_discrete}
use Rattle.psl.specs.Syntax.{Formula, falsity, truth, weak, Condition-discrete, Sequence-discrete, Formula-discrete}
use Rattle.psl.specs.Removal.{unclock}
use Rattle.property.specs.declared.place.Property.{Property}
use Rattle.property.specs.Place.{condition_trees, property_tree}
use Rattle.form.specs.declared.draft.Draft as code
use Rattle.form.specs.Draft.{conditions_in, sequences_in, formulas_in, formula_in}
use Rattle.form.specs.Limits.{conditions_needed, sequences_needed, formulas_needed}

-- the property's tree, with condition 0 written into it as the clock
unfoldable pub rewriting : Property → Formula
rewriting p = unclock (slice_index_or (condition_trees p) 0 falsity) (property_tree p)

-- the answer as a Boolean
abbrev pub answer : {A : Type 0} → Dec A → Bool
answer (yes p) = true
answer (no p) = false

-- the two formulas are the same tree
unfoldable pub same_formula : Formula → Formula → Bool
same_formula f g = answer (Formula-discrete (Condition-discrete ℕ_discrete) (Sequence-discrete (Condition-discrete ℕ_discrete)) f g)

-- the root is the property's rewriting, and the numbers of entries are the counts
unfoldable pub rewrites : Property → code.Draft → ℕ → Bool
rewrites p d root =
    same_formula (formula_in d root) (rewriting p)
    && (length (conditions_in d) == conditions_needed p && (length (sequences_in d) == sequences_needed p && length (formulas_in d) == formulas_needed p))

-- the root is the weak condition true, and the property's rewriting is that of a new property
unfoldable pub as_new : Property → code.Draft → ℕ → Bool
as_new p d root = same_formula (formula_in d root) (weak truth) && same_formula (rewriting p) (unclock truth (weak truth))

-- the root is there, and it is either
unfoldable pub made : Property → code.Draft → ℕ → Bool
made p d root = nat_lt root (length (formulas_in d)) && (rewrites p d root || as_new p d root)
