-- What a property place holds, and what is known of it.
use Rattle.std.proofs.Common.{◌≡◌, ℕ, ◌≤◌, true, [], length, take, Some, sym, ◌∙◌, subst}
use Rattle.std.proofs.lemmas.Bool.{and_parts, leb-true}
use Rattle.std.specs.List.{slice_get}
use Rattle.psl.specs.declared.entry.Condition.{Condition}
use Rattle.psl.specs.declared.entry.Sequence.{Sequence}
use Rattle.psl.specs.declared.entry.Formula.{Formula}
use Rattle.property.specs.declared.place.Property.{Property}
use Rattle.file.specs.Operands.{condition_names, sequence_names, formula_names}
use Rattle.file.specs.Rules.{condition_rules, sequence_rules, formula_rules}
use Rattle.file.specs.Sizes.{sizes, size_over}
use Rattle.property.specs.Place.{conditions_of, sequences_of, formulas_of}
use Rattle.property.proofs.Known.{limits, inspected_at, before_length, conditions_inspected, sequences_inspected, formulas_inspected}
use Rattle.file.proofs.Sizes.{length_sizes, sizes_nth}

module _ (p : Property) where
  pub some_conditions : 1 ≤ length (conditions_of p)
  unfolding conditions_of
  some_conditions = (limits p.tables p.accepts).some_conditions

  pub few_conditions : length (conditions_of p) ≤ 64
  unfolding conditions_of
  few_conditions = (limits p.tables p.accepts).few_conditions

  pub few_sequences : length (sequences_of p) ≤ 64
  unfolding sequences_of
  few_sequences = (limits p.tables p.accepts).few_sequences

  pub some_formulas : 1 ≤ length (formulas_of p)
  unfolding formulas_of
  some_formulas = (limits p.tables p.accepts).some_formulas

  pub few_formulas : length (formulas_of p) ≤ 64
  unfolding formulas_of
  few_formulas = (limits p.tables p.accepts).few_formulas

  -- each entry names what it may
  pub condition_fine : (i : ℕ) (e : Condition) → slice_get (conditions_of p) i ≡ Some e → condition_names i e ≡ true
  unfolding conditions_of
  condition_fine i e is =
      let all = inspected_at condition_rules [] (conditions_of p) i e is (conditions_inspected p.tables p.accepts) in
      subst (λ k. condition_names k e ≡ true) (before_length (conditions_of p) i e is) (and_parts _ _ all).0

  sequence_answers : (i : ℕ) (e : Sequence) → slice_get (sequences_of p) i ≡ Some e
      → (sequence_names (length (conditions_of p)) i e ≡ true) × (size_over (sizes (take i (sequences_of p))) e ≤ 240)
  unfolding conditions_of sequences_of
  sequence_answers i e is =
      let n = length (conditions_of p) in
      let all = inspected_at (sequence_rules n) [] (sequences_of p) i e is (sequences_inspected p.tables p.accepts) in
      let length_is = length_sizes (take i (sequences_of p)) ∙ before_length (sequences_of p) i e is in
      (subst (λ k. sequence_names n k e ≡ true) length_is (and_parts _ _ all).0, leb-true _ 240 (and_parts _ _ (and_parts _ _ all).1).0)

  pub sequence_fine : (i : ℕ) (e : Sequence) → slice_get (sequences_of p) i ≡ Some e → sequence_names (length (conditions_of p)) i e ≡ true
  sequence_fine i e is = (sequence_answers i e is).0

  -- no sequence is larger than 240
  pub size_fine : (i z : ℕ) → slice_get (sizes (sequences_of p)) i ≡ Some z → z ≤ 240
  size_fine i z is =
      let (e, found, measured) = sizes_nth (sequences_of p) i z is in
      subst (λ k. k ≤ 240) (sym measured) (sequence_answers i e found).1

  pub formula_fine : (i : ℕ) (e : Formula) → slice_get (formulas_of p) i ≡ Some e
      → formula_names (length (conditions_of p)) (length (sequences_of p)) i e ≡ true
  unfolding conditions_of sequences_of formulas_of
  formula_fine i e is =
      let all = inspected_at (formula_rules _ _) [] (formulas_of p) i e is (formulas_inspected p.tables p.accepts) in
      subst (λ k. formula_names (length (conditions_of p)) (length (sequences_of p)) k e ≡ true) (before_length (formulas_of p) i e is) (and_parts _ _ all).0

-- what the accessors' promises rest on
pub ruleset known = (some_conditions, some_formulas, condition_fine, sequence_fine, formula_fine, size_fine, conditions_inspected, sequences_inspected, formulas_inspected)

-- no section has more than 64 entries
pub ruleset few = (few_conditions, few_sequences, few_formulas)
