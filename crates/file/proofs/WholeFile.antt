-- The questions to a whole file, section by section, and the tables that its entries fill.
use Rattle.std.proofs.Common.{◌≡◌, ℕ, zero, suc, ◌+◌, ◌*◌, true, false, List, [], ◌∷◌, ◌++◌, length, take, drop, Some, None, Ok, Err, Result, sym, refl, ap, ◌∙◌, ap₂, arith, length-drop}
use mathlib.Core.Option.{Option, none, some}
use Rattle.std.proofs.lemmas.List.{take_rest}
use Rattle.std.proofs.lemmas.Bool.{and_from}
use Rattle.std.specs.declared.option.Option as std
use Rattle.answer.specs.Questions.{Question, ◌otherwise◌, first_no}
use Rattle.answer.proofs.FirstNo.{pass, stop, both_pass}
use Rattle.file.specs.declared.refusal.Refusal.{Refusal}
use Rattle.file.specs.declared.refusal.Reason.{Reason}
use Rattle.file.specs.declared.refusal.Section.{Section}
use Rattle.file.specs.declared.refusal.Section.TheVariants.{Conditions, Sequences as Sequences', Formulas as Formulas'}
use Rattle.file.specs.declared.sequences.Sequences.{Sequences}
use Rattle.file.specs.declared.formulas.Formulas.{Formulas}
use Rattle.psl.specs.declared.entry.Condition.{Condition}
use Rattle.table.specs.declared.table.Table.{Table}
use Rattle.table.specs.Rows.{rows_of}
use Rattle.file.specs.declared.tables.Counts.{Counts}
use Rattle.file.specs.declared.raw.Raw.{Raw}
use Rattle.file.specs.Rules.{Rules, about_entry, condition_rules, sequence_rules, formula_rules}
use Rattle.file.specs.File.{count_at, second, third, raws, entries_at, located, listed, spelled, about_entries, about_layout, about_conditions, about_sequences, about_formulas, conditions_in, sequences_in, formulas_in, questions}
use Rattle.file.specs.Filling.{Fills}
use Rattle.file.specs.Layout.{LaidOut}
use Rattle.file.specs.Accepted.{all_yes, inspected, SectionRead}
use Rattle.file.proofs.Entries.{raws_more}

-- questions that all get a yes
located_yes : (s : Section) (o : ℕ) (qs : List (Question Reason)) → first_no (located s o qs) ≡ none → all_yes qs ≡ true
located_yes s o [] e = refl
located_yes s o ((true otherwise f) ∷ qs) e = located_yes s o qs e
located_yes s o ((false otherwise f) ∷ qs) e = cc

module _ {E : Type 0} (rules : Rules E) (s : Section) where
  -- entries without a no are all spelled, and each gets only yes
  pub all_taken : (o : ℕ) (before : List E) (xs : List Raw) → first_no (about_entries rules s o before xs) ≡ none
      → (length (spelled rules xs) ≡ length xs) × (inspected rules before (spelled rules xs) ≡ true)
  all_taken o before [] e = (refl, refl)
  all_taken o before (x ∷ xs) e = at (rules.spelled x) (both_pass (located s o (about_entry (rules.spelled x) (rules.about before))) _ e) (λ after. all_taken (o + 5) after xs)
    where
      at : (p : std.Option E)
          → (first_no (located s o (about_entry p (rules.about before))) ≡ none) × (first_no (about_entries rules s (o + 5) (before ++ listed p) xs) ≡ none)
          → ((after : List E) → first_no (about_entries rules s (o + 5) after xs) ≡ none → (length (spelled rules xs) ≡ length xs) × (inspected rules after (spelled rules xs) ≡ true))
          → (length (listed p ++ spelled rules xs) ≡ suc (length xs)) × (inspected rules before (listed p ++ spelled rules xs) ≡ true)
      at None (here, later) rest = let wrong : ◌≡◌ {A = ℕ} 0 1 = cc in absurd (omega arith)
      at (Some e) (here, later) rest =
          let (long, fine) = rest (before ++ (e ∷ [])) later in
          (ap suc long, and_from _ _ (located_yes s o (rules.about before e) here) fine)

-- a section's bytes are as many entries as its count says
pub raws_length : (m : ℕ) (xs : List ℕ) → length xs ≡ 5 * m → length (raws xs) ≡ m
raws_length zero [] e = refl
raws_length zero (x ∷ xs) e = absurd (omega arith)
raws_length (suc m) xs e =
    ap length (raws_more xs (omega arith))
    ∙ ap suc (raws_length m _ (ap length (take_rest xs 5) ∙ length-drop 5 xs ∙ omega arith))

-- what comes of a section's entries: the first no, and what they spell
abbrev outcome : {E : Type 0} → Rules E → Section → ℕ → List Raw → Option Refusal × List E
outcome rules s o xs = (first_no (about_entries rules s o [] xs), spelled rules xs)

-- the same first no, and the same entries
abbrev pub Agree : {E : Type 0} → Option Refusal × List E → Option Refusal × List E → Type 0
Agree a b = (a.0 ≡ b.0) × (b.1 ≡ a.1)

agree : {E : Type 0} {a b : Option Refusal × List E} → a ≡ b → Agree a b
agree e = (ap (λ o. o.0) e, ap (λ o. o.1) (sym e))

-- what comes of filling a table from a section's bytes: it was read from the section, or the first no to it
abbrev pub ReadsSection : {T E : Type 0} → List (Question Refusal) → Rules E → List E → (T → List E) → ℕ → Result T Refusal → Type 0
ReadsSection asked rules spells filled m (Ok t) = SectionRead asked rules spells (filled t) m
ReadsSection asked rules spells filled m (Err r) = first_no asked ≡ some r

module _ {T E : Type 0} (asked : List (Question Refusal)) (spells : List E) (rules : Rules E) (rules_of : T → Rules E) (filled : T → List E) (s : Section) (o m : ℕ) (part : List ℕ) (before : T)
    (fits : rules_of before ≡ rules) (empty : filled before ≡ []) (same : Agree (first_no asked, spells) (outcome rules s o (raws part))) (whole : length part ≡ 5 * m) where
  section_filled : (r : Result T Refusal) → Fills rules_of filled s o before (raws part) r → ReadsSection asked rules spells filled m r
  section_filled (Err r) no_is = same.0 ∙ ap₂ (λ rs es. first_no (about_entries rs s o es (raws part))) (sym fits) (sym empty) ∙ no_is
  section_filled (Ok t) (no_no, holds, stays) =
      let none_is = ap₂ (λ rs es. first_no (about_entries rs s o es (raws part))) (sym fits) (sym empty) ∙ no_no in
      let (all, fine) = all_taken rules s o [] (raws part) none_is in
      let used : filled t ≡ spelled rules (raws part) = holds ∙ ap₂ (λ rs es. es ++ spelled rs (raws part)) fits empty in
      record {
        no_no = same.0 ∙ none_is;
        counted = ap length used ∙ all ∙ raws_length m part whole;
        holds = used ∙ same.1;
        fine = ap (inspected rules []) used ∙ fine;
      }

-- what comes of the bytes that the reader cuts out comes of the section where it stands
module _ (bytes : List ℕ) (n : Counts) (laid : LaidOut bytes n) (part : List ℕ) where
  entries_are : (o m p : ℕ) → part ≡ take (5 * m) (drop (o + 2) bytes) → m ≡ count_at bytes p → o ≡ p → raws part ≡ entries_at bytes p
  unfolding entries_at
  entries_are o m p is m_is o_is = ap raws (is ∙ ap₂ (λ k q. take (5 * k) (drop (q + 2) bytes)) m_is o_is)

  pub conditions_filled : (t : Table Condition 64) → rows_of t ≡ [] → part ≡ take (5 * n.conditions) (drop 2 bytes) → length part ≡ 5 * n.conditions
      → (r : Result (Table Condition 64) Refusal) → Fills (λ _. condition_rules) rows_of Conditions 2 t (raws part) r
      → ReadsSection (about_conditions bytes) condition_rules (conditions_in bytes) rows_of n.conditions r
  unfolding about_conditions
  conditions_filled t empty is whole =
      section_filled (about_conditions bytes) (conditions_in bytes) condition_rules (λ _. condition_rules) rows_of Conditions 2 n.conditions part t refl empty
      (agree (ap (outcome condition_rules Conditions 2) (sym (entries_are 0 n.conditions 0 is laid.conditions refl)))) whole

  pub sequences_filled : (t : Sequences) → t.conditions ≡ n.conditions → rows_of t.entries ≡ []
      → part ≡ take (5 * n.sequences) (drop (2 + 5 * n.conditions + 2) bytes) → length part ≡ 5 * n.sequences
      → (r : Result Sequences Refusal) → Fills (λ t. sequence_rules t.conditions) (λ t. rows_of t.entries) Sequences' (2 + 5 * n.conditions + 2) t (raws part) r
      → ReadsSection (about_sequences bytes) (sequence_rules n.conditions) (sequences_in bytes) (λ t. rows_of t.entries) n.sequences r
  unfolding about_sequences
  sequences_filled t after empty is whole =
      let second_is = ap (λ k. 2 + 5 * k) laid.conditions in
      section_filled (about_sequences bytes) (sequences_in bytes) (sequence_rules n.conditions) (λ t. sequence_rules t.conditions) (λ t. rows_of t.entries) Sequences'
      (2 + 5 * n.conditions + 2) n.sequences part t (ap sequence_rules after) empty
      (agree (ap (outcome _ Sequences' (second bytes + 2)) (sym (entries_are (2 + 5 * n.conditions) n.sequences (second bytes) is laid.sequences second_is))
      ∙ ap (λ k. outcome (sequence_rules k) Sequences' (2 + 5 * k + 2) (raws part)) (sym laid.conditions))) whole

  pub formulas_filled : (t : Formulas) → t.conditions ≡ n.conditions → t.sequences ≡ n.sequences → rows_of t.entries ≡ []
      → part ≡ take (5 * n.formulas) (drop (2 + 5 * n.conditions + 2 + 5 * n.sequences + 2) bytes) → length part ≡ 5 * n.formulas
      → (r : Result Formulas Refusal)
      → Fills (λ t. formula_rules t.conditions t.sequences) (λ t. rows_of t.entries) Formulas' (2 + 5 * n.conditions + 2 + 5 * n.sequences + 2) t (raws part) r
      → ReadsSection (about_formulas bytes) (formula_rules n.conditions n.sequences) (formulas_in bytes) (λ t. rows_of t.entries) n.formulas r
  unfolding about_formulas
  formulas_filled t after after' empty is whole =
      let third_is = ap₂ (λ k l. 2 + 5 * k + 2 + 5 * l) laid.conditions laid.sequences in
      section_filled (about_formulas bytes) (formulas_in bytes) (formula_rules n.conditions n.sequences) (λ t. formula_rules t.conditions t.sequences) (λ t. rows_of t.entries) Formulas'
      (2 + 5 * n.conditions + 2 + 5 * n.sequences + 2) n.formulas part t (ap₂ formula_rules after after') empty
      (agree (ap (outcome _ Formulas' (third bytes + 2)) (sym (entries_are (2 + 5 * n.conditions + 2 + 5 * n.sequences) n.formulas (third bytes) is laid.formulas third_is))
      ∙ ap₂ (λ k l. outcome (formula_rules k l) Formulas' (2 + 5 * k + 2 + 5 * l + 2) (raws part)) (sym laid.conditions) (sym laid.sequences))) whole

-- the first no to a file is that of its first part with a no
module _ (bytes : List ℕ) where
  abbrev after_layout : List (Question Refusal)
  after_layout = about_conditions bytes ++ (about_sequences bytes ++ about_formulas bytes)

  pub layout_no : (r : Refusal) → first_no (about_layout bytes) ≡ some r → first_no (questions bytes) ≡ some r
  unfolding questions
  layout_no r p = stop r (about_layout bytes) after_layout p

  module _ (laid : first_no (about_layout bytes) ≡ none) where
    past_layout : first_no (questions bytes) ≡ first_no after_layout
    unfolding questions
    past_layout = pass (about_layout bytes) after_layout laid

    pub conditions_no : (r : Refusal) → first_no (about_conditions bytes) ≡ some r → first_no (questions bytes) ≡ some r
    conditions_no r p = past_layout ∙ stop r (about_conditions bytes) _ p

    module _ (conditions : first_no (about_conditions bytes) ≡ none) where
      past_conditions : first_no (questions bytes) ≡ first_no (about_sequences bytes ++ about_formulas bytes)
      past_conditions = past_layout ∙ pass (about_conditions bytes) _ conditions

      pub sequences_no : (r : Refusal) → first_no (about_sequences bytes) ≡ some r → first_no (questions bytes) ≡ some r
      sequences_no r p = past_conditions ∙ stop r (about_sequences bytes) _ p

      pub formulas_decide : (x : Option Refusal) → first_no (about_sequences bytes) ≡ none → first_no (about_formulas bytes) ≡ x → first_no (questions bytes) ≡ x
      formulas_decide x sequences p = past_conditions ∙ pass (about_sequences bytes) (about_formulas bytes) sequences ∙ p
