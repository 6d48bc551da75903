-- The entries of a section, taken one after another.
use Rattle.std.proofs.Common.{◌≡◌, ℕ, ◌+◌, ◌-◌, ◌≤◌, Bool, true, false, List, [], ◌∷◌, ◌++◌, length, get_or, take, drop, Some, None, Ok, Err, Result, is_ok, sym, refl, ap, ◌∙◌, subst, append_assoc, arith}
use mathlib.Core.Option.{none, some}
use Rattle.std.proofs.lemmas.List.{take_rest, length_push}
use Rattle.std.specs.declared.option.Option as std
use Rattle.answer.specs.Questions.{Question, ◌otherwise◌, first_no}
use Rattle.answer.proofs.FirstNo.{pass, stop}
use Rattle.file.specs.declared.refusal.Section.{Section}
use Rattle.file.specs.declared.refusal.Reason.{Reason}
use Rattle.file.specs.declared.raw.Raw.{Raw}
use Rattle.file.specs.Kinds.{raw, wide_number}
use Rattle.file.specs.Rules.{Rules, about_names, about_entry}
use Rattle.file.specs.File.{refusal, raws, located, listed, spelled, about_entries}
use Rattle.file.specs.Filling.{Takes}

-- the no to what an entry names is the first to all that its section asks
pub names_no : {E : Type 0} (p : std.Option E) (names : E → Bool) (more : E → List (Question Reason)) (f : Reason)
    → first_no (about_entry p (about_names names)) ≡ some f → first_no (about_entry p (λ e. about_names names e ++ more e)) ≡ some f
names_no None names more f no_is = no_is
names_no (Some e) names more f no_is = stop f (about_names names e) (more e) no_is

-- the first entry of the bytes
abbrev pub front : List ℕ → Raw
front xs = raw (get_or xs 0 0) (wide_number (get_or xs 1 0) (get_or xs 2 0)) (wide_number (get_or xs 3 0) (get_or xs 4 0))

-- five bytes or more are an entry and the entries after it
pub raws_more : (xs : List ℕ) → 5 ≤ length xs → raws xs ≡ front xs ∷ raws (take (length xs - 5) (drop 5 xs))
raws_more xs h = subst (λ ys. raws xs ≡ front xs ∷ raws ys) (sym (take_rest xs 5)) (dropped xs h)
  where
    dropped : (xs : List ℕ) → 5 ≤ length xs → raws xs ≡ front xs ∷ raws (drop 5 xs)
    dropped [] h = absurd (omega arith)
    dropped (k ∷ []) h = absurd (omega arith)
    dropped (k ∷ (a1 ∷ [])) h = absurd (omega arith)
    dropped (k ∷ (a1 ∷ (a0 ∷ []))) h = absurd (omega arith)
    dropped (k ∷ (a1 ∷ (a0 ∷ (b1 ∷ [])))) h = absurd (omega arith)
    dropped (k ∷ (a1 ∷ (a0 ∷ (b1 ∷ (b0 ∷ rest))))) h = refl

located_none : (s : Section) (o : ℕ) (qs : List (Question Reason)) → first_no qs ≡ none → first_no (located s o qs) ≡ none
located_none s o [] e = refl
located_none s o ((true otherwise f) ∷ qs) e = located_none s o qs e
located_none s o ((false otherwise f) ∷ qs) e = cc

located_some : (s : Section) (o : ℕ) (f : Reason) (qs : List (Question Reason)) → first_no qs ≡ some f → first_no (located s o qs) ≡ some (refusal s o f)
located_some s o f [] e = cc
located_some s o f ((true otherwise g) ∷ qs) e = located_some s o f qs e
located_some s o f ((false otherwise g) ∷ qs) e = let is : g ≡ f = cc in ap (λ x. some (refusal s o x)) is

-- a call that is known to be granted took the entry
pub took : {E A : Type 0} (rules rules' : Rules E) (before after : List E) (x : Raw) (r : Result A Reason) → true ≡ is_ok r
    → Takes rules before x r rules' after → Takes rules before x (Ok (tt {0})) rules' after
took rules rules' before after x (Ok a) granted told = told
took rules rules' before after x (Err f) granted told = cc

module _ {E : Type 0} (rules : Rules E) (s : Section) where
  -- an entry that is taken leaves the decision to the later ones
  pub entry_taken : (o : ℕ) (before : List E) (x : Raw) (xs : List Raw) (e : E) → rules.spelled x ≡ Some e → first_no (rules.about before e) ≡ none
      → first_no (about_entries rules s o before (x ∷ xs)) ≡ first_no (about_entries rules s (o + 5) (before ++ (e ∷ [])) xs)
  entry_taken o before x xs e is fine =
      ap (λ p. first_no (located s o (about_entry p (rules.about before)) ++ about_entries rules s (o + 5) (before ++ listed p) xs)) is
      ∙ pass (located s o (rules.about before e)) _ (located_none s o (rules.about before e) fine)

  -- an entry that is not decides
  pub entry_refused : (o : ℕ) (before : List E) (x : Raw) (xs : List Raw) (f : Reason) → first_no (about_entry (rules.spelled x) (rules.about before)) ≡ some f
      → first_no (about_entries rules s o before (x ∷ xs)) ≡ some (refusal s o f)
  entry_refused o before x xs f no_is = stop _ (located s o (about_entry (rules.spelled x) (rules.about before))) _ (located_some s o f (about_entry (rules.spelled x) (rules.about before)) no_is)

  -- what is spelled with one entry taken
  pub spelled_more : (before : List E) (x : Raw) (xs : List Raw) (e : E) → rules.spelled x ≡ Some e
      → (before ++ (e ∷ [])) ++ spelled rules xs ≡ before ++ spelled rules (x ∷ xs)
  spelled_more before x xs e is =
      append_assoc before (e ∷ []) (spelled rules xs) ∙ ap (λ p. before ++ (listed p ++ spelled rules xs)) (sym is)

  -- the bytes after the first entry
  abbrev later : List ℕ → List ℕ
  later xs = take (length xs - 5) (drop 5 xs)

  -- one turn with an entry taken: what is left decides and completes as before
  pub goes_on : (o : ℕ) (before after : List E) (xs : List ℕ) (x : Raw) (now then : Rules E) → now ≡ rules → 5 ≤ length xs → x ≡ front xs
      → Takes now before x (Ok (tt {0})) then after
      → (length after ≡ length before + 1) × (then ≡ rules)
      × (first_no (about_entries rules s (o + 5) after (raws (later xs))) ≡ first_no (about_entries rules s o before (raws xs)))
      × (after ++ spelled rules (raws (later xs)) ≡ before ++ spelled rules (raws xs))
  goes_on o before after xs x now then same h is taken =
      let (e, spells, fine, grown, stays) = subst (λ r. Takes r before x (Ok (tt {0})) then after) same taken in
      let spells' : rules.spelled (front xs) ≡ Some e = ap rules.spelled (sym is) ∙ spells in (
        ap length grown ∙ length_push before e,
        stays,
        ap (λ es. first_no (about_entries rules s (o + 5) es (raws (later xs)))) grown
            ∙ sym (entry_taken o before (front xs) (raws (later xs)) e spells' fine)
            ∙ ap (λ ys. first_no (about_entries rules s o before ys)) (sym (raws_more xs h)),
        ap (λ es. es ++ spelled rules (raws (later xs))) grown
            ∙ spelled_more before (front xs) (raws (later xs)) e spells'
            ∙ ap (λ ys. before ++ spelled rules ys) (sym (raws_more xs h)),
      )

  -- a turn with an entry refused: it decides
  pub ends : (o : ℕ) (before : List E) (xs : List ℕ) (x : Raw) (f : Reason) (now : Rules E) → now ≡ rules → 5 ≤ length xs → x ≡ front xs
      → first_no (about_entry (now.spelled x) (now.about before)) ≡ some f
      → first_no (about_entries rules s o before (raws xs)) ≡ some (refusal s o f)
  ends o before xs x f now same h is refused =
      ap (λ ys. first_no (about_entries rules s o before ys)) (raws_more xs h)
      ∙ entry_refused o before (front xs) (raws (later xs)) f
      (ap (λ y. first_no (about_entry (rules.spelled y) (rules.about before))) (sym is)
      ∙ subst (λ r. first_no (about_entry (r.spelled x) (r.about before)) ≡ some f) same refused)
