-- What is known of the entries of an accepted property.
use Rattle.std.proofs.Common.{◌≡◌, ℕ, zero, suc, ◌≤◌, true, ◌&&◌, List, [], ◌∷◌, ◌++◌, length, take, Some, subst, append_assoc, append-nil, arith}
use Rattle.std.proofs.lemmas.List.{length-take-le}
use Rattle.std.proofs.lemmas.Bool.{and_parts, leb-true}
use Rattle.std.proofs.lemmas.Option.{slice_get_within}
use Rattle.std.specs.List.{slice_get}
use Rattle.file.specs.declared.tables.Tables.{Tables}
use Rattle.file.specs.Rules.{Rules, condition_rules, sequence_rules, formula_rules}
use Rattle.file.specs.Accepted.{all_yes, inspected, accepted, within_limits, conditions_used, sequences_used, formulas_used}

-- entry k gets only yes, after the entries before it
pub inspected_at : {E : Type 0} (rules : Rules E) (before es : List E) (k : ℕ) (e : E) → slice_get es k ≡ Some e → inspected rules before es ≡ true
    → all_yes (rules.about (before ++ take k es) e) ≡ true
inspected_at rules before [] k e is fine = cc
inspected_at rules before (x ∷ es) zero e is fine =
    let same : x ≡ e = cc in
    rw append-nil (subst (λ y. all_yes (rules.about before y) ≡ true) same (and_parts _ _ fine).0)
inspected_at rules before (x ∷ es) (suc k) e is fine =
    subst (λ xs. all_yes (rules.about xs e) ≡ true) (append_assoc before (x ∷ []) (take k es))
    (inspected_at rules (before ++ (x ∷ [])) es k e is (and_parts _ _ fine).1)

pub before_length : {E : Type 0} (es : List E) (k : ℕ) (e : E) → slice_get es k ≡ Some e → length (take k es) ≡ k
before_length es k e is = let h = slice_get_within es k e is in length-take-le k es (omega arith)

pub record Limits (t : Tables) : Type 0 where
  pub some_conditions : 1 ≤ length (conditions_used t)
  pub few_conditions : length (conditions_used t) ≤ 64
  pub few_sequences : length (sequences_used t) ≤ 64
  pub some_formulas : 1 ≤ length (formulas_used t)
  pub few_formulas : length (formulas_used t) ≤ 64

module _ (t : Tables) (ok : accepted t ≡ true) where
  parts : (within_limits t ≡ true) × ((inspected condition_rules [] (conditions_used t)
      && (inspected (sequence_rules (length (conditions_used t))) [] (sequences_used t)
      && inspected (formula_rules (length (conditions_used t)) (length (sequences_used t))) [] (formulas_used t))) ≡ true)
  unfolding accepted
  parts = and_parts _ _ ok

  pub limits : Limits t
  limits =
      let both = and_parts _ _ parts.0 in
      let a = and_parts _ _ both.0 in
      let b = and_parts _ _ both.1 in
      let c = and_parts _ _ b.1 in
      record {
        some_conditions = leb-true 1 _ a.0;
        few_conditions = leb-true _ 64 a.1;
        few_sequences = leb-true _ 64 b.0;
        some_formulas = leb-true 1 _ c.0;
        few_formulas = leb-true _ 64 c.1;
      }

  pub conditions_inspected : inspected condition_rules [] (conditions_used t) ≡ true
  conditions_inspected = (and_parts _ _ parts.1).0

  pub sequences_inspected : inspected (sequence_rules (length (conditions_used t))) [] (sequences_used t) ≡ true
  sequences_inspected = (and_parts _ _ (and_parts _ _ parts.1).1).0

  pub formulas_inspected : inspected (formula_rules (length (conditions_used t)) (length (sequences_used t))) [] (formulas_used t) ≡ true
  formulas_inspected = (and_parts (inspected (sequence_rules (length (conditions_used t))) [] (sequences_used t)) _ (and_parts (inspected condition_rules [] (conditions_used t)) _ parts.1).1).1
