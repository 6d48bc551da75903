-- The pass over the pairs of formulas and clocks.
use Rattle.std.proofs.Common.{◌≡◌, ℕ, ◌+◌, ◌*◌, ◌/◌, ◌%◌, ◌<◌, ◌≤◌, Bool, true, false, ltb, ◌≢◌, List, length, get_or, set, sym, ap, ◌∙◌, subst, ap₂, ⊎_elim, arith, get_or-set_other, get_or-set_same}
use Rattle.std.proofs.lemmas.Bool.{ltb-true, and_parts, cases_lt, both_ways}
use Rattle.psl.specs.declared.entry.Formula as entryF
use Rattle.psl.specs.declared.entry.Formula.TheVariants as f
use Rattle.file.specs.Operands.{formula_names}
use Rattle.property.specs.declared.place.Property.{Property}
use Rattle.property.specs.Place.{conditions_of, sequences_of, formulas_of}
use Rattle.form.proofs.Held.{held_formula}
use Rattle.form.specs.declared.draft.Draft as code
use Rattle.form.specs.Draft.{conditions_in, formulas_in, FormulaIs, Room}
use Rattle.form.specs.Pairs.{key, formula_adds_conditions, formula_adds_formulas, total}
use Rattle.form.specs.SequenceImages.{SequencePlaced, Marked}
use Rattle.form.specs.FormulaImages.{formula_image, ForParts, FormulaPlaced, WroteFormula, FormulasClosed, FormulasStand}
use Rattle.form.proofs.Totals.{total_mono, total_yes, total_no}
use Rattle.form.proofs.Grown.{keep_condition, keep_sequence, keep_formula, grows_twice}
use Rattle.form.proofs.SequenceSteps.{whole, inside, clock_small, entry_of, clock_of}

-- what holds of the parts' pairs: formulas are lower, sequences are there
pub for_parts : (P Q R S : ℕ → ℕ → Type 0) (n m i c : ℕ) (e : entryF.Formula) → n ≤ 64 → c < 64 → formula_names n m i e ≡ true
    → ((a b : ℕ) → a < i → b < 64 → P a b → Q a b) → ((a b : ℕ) → a < m → b < 64 → R a b → S a b) → ForParts P R e c → ForParts Q S e c
for_parts P Q R S n m i c (f.Strong a) few l names g h x = tt
for_parts P Q R S n m i c (f.Weak a) few l names g h x = tt
for_parts P Q R S n m i c (f.StrongSequence a) few l names g h x = h a c (ltb-true a m names) l x
for_parts P Q R S n m i c (f.WeakSequence a) few l names g h x = h a c (ltb-true a m names) l x
for_parts P Q R S n m i c (f.Not a) few l names g h x = g a c (ltb-true a i names) l x
for_parts P Q R S n m i c (f.And a b) few l names g h x = let q = and_parts (ltb a i) (ltb b i) names in (g a c (ltb-true a i q.0) l x.0, g b c (ltb-true b i q.1) l x.1)
for_parts P Q R S n m i c (f.Next a) few l names g h x = g a c (ltb-true a i names) l x
for_parts P Q R S n m i c (f.Until a b) few l names g h x = let q = and_parts (ltb a i) (ltb b i) names in (g a c (ltb-true a i q.0) l x.0, g b c (ltb-true b i q.1) l x.1)
for_parts P Q R S n m i c (f.Abort a b) few l names g h x = g a c (ltb-true a i (and_parts (ltb a i) _ names).0) l x
for_parts P Q R S n m i c (f.Implies a b) few l names g h x = let q = and_parts (ltb a m) (ltb b i) names in (h a c (ltb-true a m q.0) l x.0, g b c (ltb-true b i q.1) l x.1)
for_parts P Q R S n m i c (f.At a d) few l names g h x =
    let q = and_parts (ltb a i) (ltb d n) names in
    let low : d < 64 = omega (arith, ltb-true d n q.1) in
    g a d (ltb-true a i q.0) low x

module _ (p : Property) (met sm : List Bool) (d₀ d : code.Draft) (sp places : List ℕ) (k : ℕ) (inv : FormulasStand p met sm d₀ d sp places k) where
  pub step_no : get_or met k false ≡ false → FormulasStand p met sm d₀ d sp places (k + 1)
  step_no e = (
    inv.0,
    inv.1,
    (λ i c l h m. ⊎_elim (λ h'. inv.2 i c l h' m)
        (λ h'. let is : key i c ≡ k = omega arith in absurd (both_ways (get_or met k false) e (ap (λ k. get_or met k false) (sym is) ∙ m)))
        (cases_lt (key i c) k)),
    inv.3 ∙ ap (λ x. length (conditions_in d₀) + x) (sym (total_no (f.Strong 0) formula_adds_conditions (formulas_of p) met k e)),
    inv.4 ∙ ap (λ x. length (formulas_in d₀) + x) (sym (total_no (f.Strong 0) formula_adds_formulas (formulas_of p) met k e)),
    inv.5,
    inv.6,
  )

  pub step_yes : (d' : code.Draft) (r : ℕ) → get_or met k false ≡ true → k < length places → WroteFormula p (k / 64) (k % 64) d d' r → FormulasStand p met sm d₀ d' sp (set places k r) (k + 1)
  step_yes d' r e room new = (
    grows_twice inv.0 new.grows,
    (λ j h. keep_condition new.grows (inv.1 j h)),
    (λ i c l h m. ⊎_elim (λ h'. old i c h' (inv.2 i c l h' m)) (λ h'. let is : key i c ≡ k = omega arith in here i c l is) (cases_lt (key i c) k)),
    (let q = total_yes (f.Strong 0) formula_adds_conditions (formulas_of p) met k e in omega (arith, q, new.count_c, inv.3)),
    (let q = total_yes (f.Strong 0) formula_adds_formulas (formulas_of p) met k e in omega (arith, q, new.count_f, inv.4)),
    (λ i c l h m. keep_sequence new.grows (inv.5 i c l h m)),
    new.count_s ∙ inv.6,
  )
    where
      old : (i c : ℕ) → key i c < k → FormulaPlaced p d places i c → FormulaPlaced p d' (set places k r) i c
      old i c h was =
          let ne : key i c ≢ k = omega arith in
          subst (λ x. FormulaIs d' x (formula_image p i c)) (sym (get_or-set_other places k (key i c) r 0 ne)) (keep_formula new.grows was)

      here : (i c : ℕ) → c < 64 → key i c ≡ k → FormulaPlaced p d' (set places k r) i c
      here i c l is =
          subst (λ x. FormulaIs d' x (formula_image p i c)) (sym (ap (λ j. get_or (set places k r) j 0) is ∙ get_or-set_same places k r 0 room))
          (subst (λ t. FormulaIs d' r t) (ap₂ (formula_image p) (sym (entry_of i c k l is)) (sym (clock_of i c k l is))) new.is)

  pub ready_here : FormulasClosed p met sm → get_or met k false ≡ true → k < 64 * length (formulas_of p) → length (conditions_of p) ≤ 64
      → (k % 64 < length (conditions_of p)) × ForParts (FormulaPlaced p d places) (SequencePlaced p d sp) (get_or (formulas_of p) (k / 64) (f.Strong 0)) (k % 64)
  ready_here closed e h few =
      let i = k / 64 in
      let c = k % 64 in
      let there : i < length (formulas_of p) = inside k (length (formulas_of p)) h in
      let small : c < 64 = clock_small k in
      let told = closed i c there small (ap (λ j. get_or met j false) (whole k) ∙ e) in (
        told.0,
        for_parts (Marked met) (FormulaPlaced p d places) (Marked sm) (SequencePlaced p d sp) (length (conditions_of p)) (length (sequences_of p)) i c (get_or (formulas_of p) i (f.Strong 0)) few small (held_formula p i there).names
            (λ a b l m x. inv.2 a b m (below a b l m) x) (λ a b l m x. inv.5 a b m (low a b l m) x) told.1,
      )
    where
      below : (a b : ℕ) → a < k / 64 → b < 64 → key a b < k
      below a b l m = omega arith

      low : (a b : ℕ) → a < length (sequences_of p) → b < 64 → key a b < 64 * length (sequences_of p)
      low a b l m = omega arith

  pub room_here : (n : ℕ) → k < n → get_or met k false ≡ true → Room d₀ (total (f.Strong 0) formula_adds_conditions (formulas_of p) met n) (total (f.Strong 0) formula_adds_formulas (formulas_of p) met n)
      → Room d (formula_adds_conditions (get_or (formulas_of p) (k / 64) (f.Strong 0))) (formula_adds_formulas (get_or (formulas_of p) (k / 64) (f.Strong 0)))
  room_here n h e room =
      let c = total_yes (f.Strong 0) formula_adds_conditions (formulas_of p) met k e in
      let r = total_yes (f.Strong 0) formula_adds_formulas (formulas_of p) met k e in
      let c' = total_mono (f.Strong 0) formula_adds_conditions (formulas_of p) met (k + 1) n (omega arith) in
      let r' = total_mono (f.Strong 0) formula_adds_formulas (formulas_of p) met (k + 1) n (omega arith) in
      (omega (arith, c, c', inv.3, room.0), omega (arith, r, r', inv.4, room.1))
