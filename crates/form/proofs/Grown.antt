-- What entries are stays as it is when a form grows.
use Rattle.std.proofs.Common.{◌≡◌, ℕ, suc, ◌+◌, ◌<◌, Bool, true, ltb, List, [], ◌∷◌, ◌++◌, length, get_or, sym, refl, ap, ◌∙◌, subst, ap₂, ⊎_elim, append_assoc, append-nil, arith, length-append, get_or-take}
use Rattle.std.proofs.lemmas.List.{take_at, length_push, get_or_push, get_or_append_left}
use Rattle.std.proofs.lemmas.Bool.{ltb-true, and_parts, cases_lt}
use Rattle.psl.specs.Syntax.{Condition, Sequence, Formula, falsity, empty, condition, sequence_at, strong, weak, strong_sequence, weak_sequence, abort, implies, formula_at}
use Rattle.psl.specs.Table.{grow, condition_of, conditions, sequence_of, sequences, formula_of, formulas, nothing}
use Rattle.psl.specs.declared.entry.Condition as entryC
use Rattle.psl.specs.declared.entry.Sequence as entryS
use Rattle.psl.specs.declared.entry.Sequence.TheVariants as s
use Rattle.psl.specs.declared.entry.Formula as entryF
use Rattle.psl.specs.declared.entry.Formula.TheVariants as f
use Rattle.psl.proofs.Grow.{grow_push, grow_take, length_grow}
use Rattle.file.specs.Operands.{sequence_names, formula_names}
use Rattle.form.specs.declared.draft.Draft as code
use Rattle.form.specs.Draft.{conditions_in, sequences_in, formulas_in, ConditionIs, SequenceIs, FormulaIs, Grows, AddedCondition, AddedSequence, AddedFormula}
use Rattle.form.specs.Named.{AllNamed}

-- an entry of the front
prefix_at : {E T : Type 0} (build : List T → E → T) (es xs : List E) (k : ℕ) (d : T) → k < length es
    → get_or (grow build [] (es ++ xs)) k d ≡ get_or (grow build [] es) k d
prefix_at build es xs k d h =
    sym (get_or-take (length es) (grow build [] (es ++ xs)) k d h)
    ∙ ap (λ ts. get_or ts k d) (grow_take build (es ++ xs) (length es) ∙ ap (grow build []) (take_at es xs (length es) refl))

-- the last entry
last_at : {E T : Type 0} (build : List T → E → T) (es : List E) (e : E) (d : T) → get_or (grow build [] (es ++ (e ∷ []))) (length es) d ≡ build (grow build [] es) e
last_at build es e d =
    ap (λ ts. get_or ts (length es) d) (grow_push build [] es e)
    ∙ get_or_push (grow build [] es) (build (grow build [] es) e) d (length es) (length_grow build [] es ∙ omega arith)

-- entries that name only conditions that two lists share
sequence_same : (n : ℕ) (cs ds acc_c : List Condition) (acc : List Sequence) (i : ℕ) (e : entryS.Sequence) → ((a : ℕ) → a < n → get_or ds a falsity ≡ get_or cs a falsity)
    → sequence_names n i e ≡ true → sequence_of ds acc e ≡ sequence_of cs acc e
sequence_same n cs ds x acc i (s.Condition a) h p = ap condition (h a (ltb-true a n p))
sequence_same n cs ds x acc i (s.Concat a b) h p = refl
sequence_same n cs ds x acc i (s.Fusion a b) h p = refl
sequence_same n cs ds x acc i (s.Either a b) h p = refl
sequence_same n cs ds x acc i (s.Both a b) h p = refl
sequence_same n cs ds x acc i s.Empty h p = refl
sequence_same n cs ds x acc i (s.Star a) h p = refl
sequence_same n cs ds x acc i (s.At a b) h p = ap (sequence_at (get_or acc a empty)) (h b (ltb-true b n (and_parts (ltb a i) _ p).1))

-- two ways of building that agree on each entry that is named grow the same trees
grow_same : {E T : Type 0} (left right : List T → E → T) (names : ℕ → E → Bool) (first : E) → ((acc : List T) (i : ℕ) (e : E) → names i e ≡ true → left acc e ≡ right acc e)
    → (acc : List T) (es : List E) (j : ℕ) → ((k : ℕ) → k < length es → names (j + k) (get_or es k first) ≡ true) → grow left acc es ≡ grow right acc es
grow_same left right names first same acc [] j named = refl
grow_same left right names first same acc (e ∷ es) j named =
    ap (λ x. grow left (acc ++ (x ∷ [])) es) (same acc (j + 0) e (named 0 (omega arith)))
    ∙ grow_same left right names first same (acc ++ (right acc e ∷ [])) es (suc j)
    (λ k l. let m : j + suc k ≡ suc j + k = omega arith in subst (λ i. names i (get_or es k first) ≡ true) m (named (suc k) (omega arith)))

from_0 : {E : Type 0} (names : ℕ → E → Bool) (first : E) (es : List E) → AllNamed names first es → (k : ℕ) → k < length es → names (0 + k) (get_or es k first) ≡ true
from_0 names first es named k l = let m : k ≡ 0 + k = omega arith in subst (λ i. names i (get_or es k first) ≡ true) m (named k l)

sequences_same : (n : ℕ) (cs ds : List Condition) (es : List entryS.Sequence) → ((a : ℕ) → a < n → get_or ds a falsity ≡ get_or cs a falsity)
    → AllNamed (sequence_names n) (s.Condition 0) es → sequences ds es ≡ sequences cs es
unfolding sequences
sequences_same n cs ds es h names =
    grow_same (sequence_of ds) (sequence_of cs) (sequence_names n) (s.Condition 0) (λ acc i e q. sequence_same n cs ds cs acc i e h q) [] es 0
    (from_0 (sequence_names n) (s.Condition 0) es names)

conditions_front : (es xs : List entryC.Condition) (k : ℕ) → k < length es → get_or (conditions (es ++ xs)) k falsity ≡ get_or (conditions es) k falsity
unfolding conditions
conditions_front es xs k h = prefix_at condition_of es xs k falsity h

sequences_front : (cs : List Condition) (es xs : List entryS.Sequence) (k : ℕ) → k < length es → get_or (sequences cs (es ++ xs)) k empty ≡ get_or (sequences cs es) k empty
unfolding sequences
sequences_front cs es xs k h = prefix_at (sequence_of cs) es xs k empty h

front_length : {X : Type 0} (all es xs : List X) (k : ℕ) → all ≡ es ++ xs → k < length es → k < length all
front_length all es xs k e h = omega (arith, ap length e, length-append es xs)

pub keep_condition : {d e : code.Draft} {k : ℕ} {t : Condition} → Grows d e → ConditionIs d k t → ConditionIs e k t
keep_condition {d = d} {e = e} {k = k} g c =
    record {
      there = front_length (conditions_in e) (conditions_in d) g.cs k g.conditions c.there;
      is = ap (λ es. get_or (conditions es) k falsity) g.conditions ∙ conditions_front (conditions_in d) g.cs k c.there ∙ c.is;
    }

pub keep_sequence : {d e : code.Draft} {k : ℕ} {t : Sequence} → Grows d e → SequenceIs d k t → SequenceIs e k t
keep_sequence {d = d} {e = e} {k = k} g r =
    record {
      there = front_length (sequences_in e) (sequences_in d) g.rs k g.sequences r.there;
      is =
          ap (λ es. get_or (sequences (conditions (conditions_in e)) es) k empty) g.sequences
          ∙ sequences_front (conditions (conditions_in e)) (sequences_in d) g.rs k r.there
          ∙ ap (λ ts. get_or ts k empty)
          (sequences_same (length (conditions_in d)) (conditions (conditions_in d)) (conditions (conditions_in e)) (sequences_in d)
          (λ a h. ap (λ es. get_or (conditions es) a falsity) g.conditions ∙ conditions_front (conditions_in d) g.cs a h) d.sequences_named)
          ∙ r.is;
    }

pub grows_twice : {c d e : code.Draft} → Grows c d → Grows d e → Grows c e
grows_twice {c = c} {d = d} {e = e} g h =
    record {
      cs = g.cs ++ h.cs;
      rs = g.rs ++ h.rs;
      fs = g.fs ++ h.fs;
      conditions = h.conditions ∙ ap (λ x. x ++ h.cs) g.conditions ∙ append_assoc (conditions_in c) g.cs h.cs;
      sequences = h.sequences ∙ ap (λ x. x ++ h.rs) g.sequences ∙ append_assoc (sequences_in c) g.rs h.rs;
      formulas = h.formulas ∙ ap (λ x. x ++ h.fs) g.formulas ∙ append_assoc (formulas_in c) g.fs h.fs;
    }

pub grows_none : (d : code.Draft) → Grows d d
grows_none d = record { fs = []; formulas = sym (append-nil (formulas_in d)); cs = []; rs = []; conditions = sym (append-nil (conditions_in d)); sequences = sym (append-nil (sequences_in d)) }

formula_same : (n m : ℕ) (cs ds : List Condition) (rs us : List Sequence) (acc : List Formula) (i : ℕ) (e : entryF.Formula)
    → ((a : ℕ) → a < n → get_or ds a falsity ≡ get_or cs a falsity) → ((a : ℕ) → a < m → get_or us a empty ≡ get_or rs a empty)
    → formula_names n m i e ≡ true → formula_of ds us acc e ≡ formula_of cs rs acc e
formula_same n m cs ds rs us acc i (f.Strong a) h k p = ap strong (h a (ltb-true a n p))
formula_same n m cs ds rs us acc i (f.Weak a) h k p = ap weak (h a (ltb-true a n p))
formula_same n m cs ds rs us acc i (f.StrongSequence a) h k p = ap strong_sequence (k a (ltb-true a m p))
formula_same n m cs ds rs us acc i (f.WeakSequence a) h k p = ap weak_sequence (k a (ltb-true a m p))
formula_same n m cs ds rs us acc i (f.Not a) h k p = refl
formula_same n m cs ds rs us acc i (f.And a b) h k p = refl
formula_same n m cs ds rs us acc i (f.Next a) h k p = refl
formula_same n m cs ds rs us acc i (f.Until a b) h k p = refl
formula_same n m cs ds rs us acc i (f.Abort a b) h k p = ap (abort (get_or acc a nothing)) (h b (ltb-true b n (and_parts (ltb a i) _ p).1))
formula_same n m cs ds rs us acc i (f.Implies a b) h k p = ap (λ r. implies r (get_or acc b nothing)) (k a (ltb-true a m (and_parts (ltb a m) _ p).0))
formula_same n m cs ds rs us acc i (f.At a b) h k p = ap (formula_at (get_or acc a nothing)) (h b (ltb-true b n (and_parts (ltb a i) _ p).1))

formulas_same : (n m : ℕ) (cs ds : List Condition) (rs us : List Sequence) (es : List entryF.Formula)
    → ((a : ℕ) → a < n → get_or ds a falsity ≡ get_or cs a falsity) → ((a : ℕ) → a < m → get_or us a empty ≡ get_or rs a empty)
    → AllNamed (formula_names n m) (f.Strong 0) es → formulas ds us es ≡ formulas cs rs es
unfolding formulas
formulas_same n m cs ds rs us es h k names =
    grow_same (formula_of ds us) (formula_of cs rs) (formula_names n m) (f.Strong 0) (λ acc i e q. formula_same n m cs ds rs us acc i e h k q) [] es 0
    (from_0 (formula_names n m) (f.Strong 0) es names)

formulas_front : (cs : List Condition) (rs : List Sequence) (es xs : List entryF.Formula) (k : ℕ) → k < length es → get_or (formulas cs rs (es ++ xs)) k nothing ≡ get_or (formulas cs rs es) k nothing
unfolding formulas
formulas_front cs rs es xs k h = prefix_at (formula_of cs rs) es xs k nothing h

pub keep_formula : {d e : code.Draft} {k : ℕ} {t : Formula} → Grows d e → FormulaIs d k t → FormulaIs e k t
keep_formula {d = d} {e = e} {k = k} g r =
    record {
      there = front_length (formulas_in e) (formulas_in d) g.fs k g.formulas r.there;
      is =
          ap (λ es. get_or (formulas (conditions (conditions_in e)) (sequences (conditions (conditions_in e)) (sequences_in e)) es) k nothing) g.formulas
          ∙ formulas_front (conditions (conditions_in e)) (sequences (conditions (conditions_in e)) (sequences_in e)) (formulas_in d) g.fs k r.there
          ∙ ap (λ ts. get_or ts k nothing)
          (formulas_same (length (conditions_in d)) (length (sequences_in d)) (conditions (conditions_in d)) (conditions (conditions_in e)) (sequences (conditions (conditions_in d)) (sequences_in d)) (sequences (conditions (conditions_in e)) (sequences_in e)) (formulas_in d)
          (λ a h. ap (λ es. get_or (conditions es) a falsity) g.conditions ∙ conditions_front (conditions_in d) g.cs a h)
          (λ a h. (keep_sequence {d = d} {e = e} {k = a} g (record { there = h; is = refl })).is)
          d.formulas_named)
          ∙ r.is;
    }

-- one more entry names what it may
pub push_named : {E : Type 0} (names : ℕ → E → Bool) (first : E) (es : List E) (e : E)
    → AllNamed names first es → names (length es) e ≡ true → AllNamed names first (es ++ (e ∷ []))
push_named names first es e all here k h =
    ⊎_elim
    (λ l. ap (names k) (get_or_append_left es (e ∷ []) first k l) ∙ all k l)
    (λ l. let is : length es ≡ k = omega (arith, length_push es e) in
    ap (names k) (get_or_push es e first k is) ∙ subst (λ i. names i e ≡ true) is here)
    (cases_lt k (length es))

pub condition_as : {d : code.Draft} {k : ℕ} {t u : Condition} → t ≡ u → ConditionIs d k t → ConditionIs d k u
condition_as e c = record { there = c.there; is = c.is ∙ e }

pub sequence_as : {d : code.Draft} {k : ℕ} {t u : Sequence} → t ≡ u → SequenceIs d k t → SequenceIs d k u
sequence_as e c = record { there = c.there; is = c.is ∙ e }

pub formula_as : {d : code.Draft} {k : ℕ} {t u : Formula} → t ≡ u → FormulaIs d k t → FormulaIs d k u
formula_as e c = record { there = c.there; is = c.is ∙ e }

module _ (d d' : code.Draft) where
  last_c : (es : List entryC.Condition) (e : entryC.Condition) → get_or (conditions (es ++ (e ∷ []))) (length es) falsity ≡ condition_of (conditions es) e
  unfolding conditions
  last_c es e = last_at condition_of es e falsity

  last_s : (cs : List Condition) (es : List entryS.Sequence) (e : entryS.Sequence) → get_or (sequences cs (es ++ (e ∷ []))) (length es) empty ≡ sequence_of cs (sequences cs es) e
  unfolding sequences
  last_s cs es e = last_at (sequence_of cs) es e empty

  last_f : (cs : List Condition) (rs : List Sequence) (es : List entryF.Formula) (e : entryF.Formula) → get_or (formulas cs rs (es ++ (e ∷ []))) (length es) nothing ≡ formula_of cs rs (formulas cs rs es) e
  unfolding formulas
  last_f cs rs es e = last_at (formula_of cs rs) es e nothing

  kept : {E : Type 0} (es es' : List E) → es' ≡ es → es' ≡ es ++ []
  kept es es' same = same ∙ sym (append-nil es)

  pub condition_added : (e : entryC.Condition) (r : ℕ) → conditions_in d' ≡ conditions_in d ++ (e ∷ []) → sequences_in d' ≡ sequences_in d → formulas_in d' ≡ formulas_in d
      → r ≡ length (conditions_in d) → AddedCondition d d' e r
  condition_added e r more same_s same_f is =
      record {
        grows = record { cs = e ∷ []; rs = []; fs = []; conditions = more; sequences = kept _ _ same_s; formulas = kept _ _ same_f };
        is = record {
          there = omega (arith, ap length more, length_push (conditions_in d) e, is);
          is = ap₂ (λ es k. get_or (conditions es) k falsity) more is ∙ last_c (conditions_in d) e;
        };
        count_c = omega (arith, ap length more, length_push (conditions_in d) e);
        count_s = ap length same_s;
        count_f = ap length same_f;
      }

  pub sequence_added : (e : entryS.Sequence) (r : ℕ) → conditions_in d' ≡ conditions_in d → sequences_in d' ≡ sequences_in d ++ (e ∷ []) → formulas_in d' ≡ formulas_in d
      → r ≡ length (sequences_in d) → AddedSequence d d' e r
  sequence_added e r same_c more same_f is =
      record {
        grows = record { cs = []; rs = e ∷ []; fs = []; conditions = kept _ _ same_c; sequences = more; formulas = kept _ _ same_f };
        is = record {
          there = omega (arith, ap length more, length_push (sequences_in d) e, is);
          is =
              ap (λ cs. get_or (sequences (conditions cs) (sequences_in d')) r empty) same_c
              ∙ ap₂ (λ es k. get_or (sequences (conditions (conditions_in d)) es) k empty) more is
              ∙ last_s (conditions (conditions_in d)) (sequences_in d) e;
        };
        count_c = ap length same_c;
        count_s = omega (arith, ap length more, length_push (sequences_in d) e);
        count_f = ap length same_f;
      }

  pub formula_added : (e : entryF.Formula) (r : ℕ) → conditions_in d' ≡ conditions_in d → sequences_in d' ≡ sequences_in d → formulas_in d' ≡ formulas_in d ++ (e ∷ [])
      → r ≡ length (formulas_in d) → AddedFormula d d' e r
  formula_added e r same_c same_s more is =
      record {
        grows = record { cs = []; rs = []; fs = e ∷ []; conditions = kept _ _ same_c; sequences = kept _ _ same_s; formulas = more };
        is = record {
          there = omega (arith, ap length more, length_push (formulas_in d) e, is);
          is =
              ap₂ (λ cs rs. get_or (formulas (conditions cs) (sequences (conditions cs) rs) (formulas_in d')) r nothing) same_c same_s
              ∙ ap₂ (λ es k. get_or (formulas (conditions (conditions_in d)) (sequences (conditions (conditions_in d)) (sequences_in d)) es) k nothing) more is
              ∙ last_f (conditions (conditions_in d)) (sequences (conditions (conditions_in d)) (sequences_in d)) (formulas_in d) e;
        };
        count_c = ap length same_c;
        count_s = ap length same_s;
        count_f = omega (arith, ap length more, length_push (formulas_in d) e);
      }
