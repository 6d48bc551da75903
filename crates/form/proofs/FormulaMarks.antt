-- One more pair whose parts are marked.
use Rattle.std.proofs.Common.{◌≡◌, ℕ, zero, suc, ◌+◌, ◌*◌, ◌/◌, ◌%◌, ◌<◌, ◌≤◌, Bool, true, false, cond, ltb, ◌⊎◌, List, length, get_or, sym, ap, ◌∙◌, subst, ⊎_elim, add-one, arith}
use Rattle.std.proofs.lemmas.Bool.{ltb-true, and_parts, cases_lt, both_ways}
use Rattle.psl.specs.declared.entry.Formula as entryF
use Rattle.psl.specs.declared.entry.Formula.TheVariants as f
use Rattle.file.specs.Operands.{formula_names}
use Rattle.property.specs.declared.place.Property.{Property}
use Rattle.property.specs.Place.{conditions_of, sequences_of, formulas_of}
use Rattle.form.proofs.Held.{held_formula}
use Rattle.form.specs.Pairs.{key}
use Rattle.form.specs.SequenceImages.{Marked}
use Rattle.form.specs.FormulaImages.{ForParts, FormulasClosed}
use Rattle.form.specs.Met as marks
use Rattle.form.specs.Met.{with_formulas, with_sequences, with_parts, meet_formulas, Within, Clocks}
use Rattle.form.proofs.SequenceSteps.{whole, inside, clock_small, entry_of, clock_of}
use Rattle.form.proofs.FormulaSteps.{for_parts}
use Rattle.form.proofs.PutMarks.{Put, none, one, single, double, meets_one}

abbrev None : ℕ → ℕ → Type 0
None a b = Unit {0}

module _ (n m i c : ℕ) (few : n ≤ 64) (few_m : m ≤ 64) (small : i ≤ 63) (l : c < 64) where
  fits_m : (met : List Bool) (a b : ℕ) → length met ≡ 4096 → ltb a m ≡ true → b < 64 → key a b < length met
  fits_m met a b long q r = let h = ltb-true a m q in omega arith

  pub marked_f : (e : entryF.Formula) (met : List Bool) → length met ≡ 4096 → formula_names n m i e ≡ true → Put (λ P. ForParts P None e c) (64 * i) met (with_formulas e c met)
  marked_f (f.Strong a) met long q = none _ (64 * i) met tt
  marked_f (f.Weak a) met long q = none _ (64 * i) met tt
  marked_f (f.StrongSequence a) met long q = none _ (64 * i) met tt
  marked_f (f.WeakSequence a) met long q = none _ (64 * i) met tt
  marked_f (f.Not a) met long q = single i c small l _ met a c long q l (λ P x. x) (λ Q x. x)
  marked_f (f.And a b) met long q = double i c small l _ met a b long q (λ P x y. (x, y)) (λ Q x. x)
  marked_f (f.Next a) met long q = single i c small l _ met a c long q l (λ P x. x) (λ Q x. x)
  marked_f (f.Until a b) met long q = double i c small l _ met a b long q (λ P x y. (x, y)) (λ Q x. x)
  marked_f (f.Abort a b) met long q = single i c small l _ met a c long (and_parts (ltb a i) _ q).0 l (λ P x. x) (λ Q x. x)
  marked_f (f.Implies a b) met long q = single i c small l _ met b c long (and_parts (ltb a m) _ q).1 l (λ P x. (tt, x)) (λ Q x. x.1)
  marked_f (f.At a d) met long q =
      let h = and_parts (ltb a i) (ltb d n) q in
      let r : d < 64 = omega (arith, ltb-true d n h.1) in
      single i c small l _ met a d long h.0 r (λ P x. x) (λ Q x. x)

  pub marked_s : (e : entryF.Formula) (met : List Bool) → length met ≡ 4096 → formula_names n m i e ≡ true → Put (λ R. ForParts None R e c) 4096 met (with_sequences e c met)
  marked_s (f.Strong a) met long q = none _ 4096 met tt
  marked_s (f.Weak a) met long q = none _ 4096 met tt
  marked_s (f.StrongSequence a) met long q = let h = fits_m met a c long q l in one _ 4096 met a c (omega arith) l h (λ P x. x) (λ Q x. x)
  marked_s (f.WeakSequence a) met long q = let h = fits_m met a c long q l in one _ 4096 met a c (omega arith) l h (λ P x. x) (λ Q x. x)
  marked_s (f.Not a) met long q = none _ 4096 met tt
  marked_s (f.And a b) met long q = none _ 4096 met (tt, tt)
  marked_s (f.Next a) met long q = none _ 4096 met tt
  marked_s (f.Until a b) met long q = none _ 4096 met (tt, tt)
  marked_s (f.Abort a b) met long q = none _ 4096 met tt
  marked_s (f.Implies a b) met long q = let h = fits_m met a c long (and_parts (ltb a m) _ q).0 l in one _ 4096 met a c (omega arith) l h (λ P x. (x, tt)) (λ Q x. x.0)
  marked_s (f.At a d) met long q = none _ 4096 met tt

  clocks_f : (e : entryF.Formula) → c < n → formula_names n m i e ≡ true → ForParts (λ a b. b < n) (λ a b. b < n) e c
  clocks_f (f.Strong a) h q = tt
  clocks_f (f.Weak a) h q = tt
  clocks_f (f.StrongSequence a) h q = h
  clocks_f (f.WeakSequence a) h q = h
  clocks_f (f.Not a) h q = h
  clocks_f (f.And a b) h q = (h, h)
  clocks_f (f.Next a) h q = h
  clocks_f (f.Until a b) h q = (h, h)
  clocks_f (f.Abort a b) h q = h
  clocks_f (f.Implies a b) h q = (h, h)
  clocks_f (f.At a d) h q = ltb-true d n (and_parts (ltb a i) _ q).1

pub together : (P R : ℕ → ℕ → Type 0) (c : ℕ) (e : entryF.Formula) → ForParts P None e c → ForParts None R e c → ForParts P R e c
together P R c (f.Strong a) x y = tt
together P R c (f.Weak a) x y = tt
together P R c (f.StrongSequence a) x y = y
together P R c (f.WeakSequence a) x y = y
together P R c (f.Not a) x y = x
together P R c (f.And a b) x y = x
together P R c (f.Next a) x y = x
together P R c (f.Until a b) x y = x
together P R c (f.Abort a b) x y = x
together P R c (f.Implies a b) x y = (y.0, x.1)
together P R c (f.At a d) x y = x

abbrev entry : Property → ℕ → entryF.Formula
entry p i = get_or (formulas_of p) i (f.Strong 0)

abbrev pub Done : Property → List Bool → List Bool → ℕ → Type 0
Done p fm sm k = (i c : ℕ) → i < length (formulas_of p) → c < 64 → k ≤ key i c → Marked fm i c → ForParts (Marked fm) (Marked sm) (entry p i) c

abbrev pub Inv : Property → List Bool → List Bool → List Bool → List Bool → ℕ → Type 0
Inv p fs ss fm sm k =
    Within fs fm × Within ss sm × Clocks p fm × Clocks p sm × Done p fm sm k
    × ((fo so : List Bool) → FormulasClosed p fo so → Within fs fo → Within ss so → Within fm fo × Within sm so)
    × (length fm ≡ 4096) × (length sm ≡ 4096)

module _ (p : Property) (few : length (conditions_of p) ≤ 64) (few_s : length (sequences_of p) ≤ 64) (few_f : length (formulas_of p) ≤ 64)
    (fs ss fm sm : List Bool) (k : ℕ) (h : k < 64 * length (formulas_of p)) (inv : Inv p fs ss fm sm (k + 1)) where
  pub step_no : get_or fm k false ≡ false → Inv p fs ss fm sm k
  step_no e = (
    inv.0,
    inv.1,
    inv.2,
    inv.3,
    (λ i c there l u m. ⊎_elim (λ u'. inv.4 i c there l (omega arith) m)
        (λ u'. let is : key i c ≡ k = omega arith in absurd (both_ways (get_or fm k false) e (ap (λ j. get_or fm j false) (sym is) ∙ m)))
        (cases_lt k (key i c))),
    inv.5,
    inv.6,
    inv.7,
  )

  pub step_yes : get_or fm k false ≡ true → Inv p fs ss (with_formulas (entry p (k / 64)) (k % 64) fm) (with_sequences (entry p (k / 64)) (k % 64) sm) k
  step_yes e = (
    (λ i c l m. nf.kept (key i c) (inv.0 i c l m)),
    (λ i c l m. ns.kept (key i c) (inv.1 i c l m)),
    (λ i c l m. clock_in i c l (λ was. inv.2 i c l was) (nf.only Q (left Q Q clocks) (key i c) m)),
    (λ i c l m. clock_in i c l (λ was. inv.3 i c l was) (ns.only Q (right Q Q clocks) (key i c) m)),
    (λ i c there' l u m.
        let was : Marked fm i c = nf.upper (key i c) (omega arith) m in
        ⊎_elim
        (λ u'. spread i c l there' (inv.4 i c there' l (omega arith) was))
        (λ u'. let is : key i c ≡ k = omega arith in
        subst (λ j. ForParts (Marked (with_formulas (entry p (k / 64)) (k % 64) fm)) (Marked (with_sequences (entry p (k / 64)) (k % 64) sm)) (entry p j) c) (sym (entry_of i c k l is))
        (subst (λ b. ForParts (Marked (with_formulas (entry p (k / 64)) (k % 64) fm)) (Marked (with_sequences (entry p (k / 64)) (k % 64) sm)) (entry p (k / 64)) b) (sym (clock_of i c k l is)) (together _ _ (k % 64) (entry p (k / 64)) nf.done ns.done)))
        (cases_lt k (key i c))),
    (λ fo so closed in_f in-s.
        let lower = inv.5 fo so closed in_f in-s in
        let told = (closed (k / 64) (k % 64) there (clock_small k) (lower.0 (k / 64) (k % 64) (clock_small k) here)).1 in (
          (λ i c l m. marked_in fo i c l (λ was. lower.0 i c l was) (nf.only (Marked fo) (left (Marked fo) (Marked so) told) (key i c) m)),
          (λ i c l m. marked_in so i c l (λ was. lower.1 i c l was) (ns.only (Marked so) (right (Marked fo) (Marked so) told) (key i c) m)),
        )),
    nf.long ∙ inv.6,
    ns.long ∙ inv.7,
  )
    where
      there : k / 64 < length (formulas_of p)
      there = inside k (length (formulas_of p)) h

      names : formula_names (length (conditions_of p)) (length (sequences_of p)) (k / 64) (entry p (k / 64)) ≡ true
      names = (held_formula p (k / 64) there).names

      here : Marked fm (k / 64) (k % 64)
      here = ap (λ j. get_or fm j false) (whole k) ∙ e

      nf : Put (λ P. ForParts P None (entry p (k / 64)) (k % 64)) (64 * (k / 64)) fm (with_formulas (entry p (k / 64)) (k % 64) fm)
      nf = marked_f (length (conditions_of p)) (length (sequences_of p)) (k / 64) (k % 64) few few_s (omega arith) (clock_small k) (entry p (k / 64)) fm inv.6 names

      ns : Put (λ R. ForParts None R (entry p (k / 64)) (k % 64)) 4096 sm (with_sequences (entry p (k / 64)) (k % 64) sm)
      ns = marked_s (length (conditions_of p)) (length (sequences_of p)) (k / 64) (k % 64) few few_s (omega arith) (clock_small k) (entry p (k / 64)) sm inv.7 names

      Q : ℕ → ℕ → Type 0
      Q a b = b < length (conditions_of p)

      left : (P R : ℕ → ℕ → Type 0) → ForParts P R (entry p (k / 64)) (k % 64) → ForParts P None (entry p (k / 64)) (k % 64)
      left P R x = for_parts P P R None (length (conditions_of p)) (length (sequences_of p)) (k / 64) (k % 64) (entry p (k / 64)) few (clock_small k) names (λ a b _ _ y. y) (λ a b _ _ y. tt) x

      right : (P R : ℕ → ℕ → Type 0) → ForParts P R (entry p (k / 64)) (k % 64) → ForParts None R (entry p (k / 64)) (k % 64)
      right P R x = for_parts P None R R (length (conditions_of p)) (length (sequences_of p)) (k / 64) (k % 64) (entry p (k / 64)) few (clock_small k) names (λ a b _ _ y. tt) (λ a b _ _ y. y) x

      clocks : ForParts (λ a b. b < length (conditions_of p)) (λ a b. b < length (conditions_of p)) (entry p (k / 64)) (k % 64)
      clocks = clocks_f (length (conditions_of p)) (length (sequences_of p)) (k / 64) (k % 64) few few_s (omega arith) (clock_small k) (entry p (k / 64)) (inv.2 (k / 64) (k % 64) (clock_small k) here) names

      clock_in : {A : Type 0} (i c : ℕ) → c < 64 → (A → c < length (conditions_of p)) → A ⊎ ((a : ℕ) × (b : ℕ) × (b < 64) × (key i c ≡ key a b) × (b < length (conditions_of p))) → c < length (conditions_of p)
      clock_in i c l was x = ⊎_elim was (λ y. let same : c ≡ y.1 = omega (arith, y.2, y.3) in subst (λ b. b < length (conditions_of p)) (sym same) y.4) x

      marked_in : {A : Type 0} (o : List Bool) (i c : ℕ) → c < 64 → (A → Marked o i c) → A ⊎ ((a : ℕ) × (b : ℕ) × (b < 64) × (key i c ≡ key a b) × Marked o a b) → Marked o i c
      marked_in o i c l was x =
          ⊎_elim was (λ y. let same : key i c ≡ key y.0 y.1 = y.3 in ap (λ j. get_or o j false) same ∙ y.4) x

      spread : (i c : ℕ) → c < 64 → i < length (formulas_of p) → ForParts (Marked fm) (Marked sm) (entry p i) c
          → ForParts (Marked (with_formulas (entry p (k / 64)) (k % 64) fm)) (Marked (with_sequences (entry p (k / 64)) (k % 64) sm)) (entry p i) c
      spread i c l at x =
          for_parts (Marked fm) (Marked (with_formulas (entry p (k / 64)) (k % 64) fm)) (Marked sm) (Marked (with_sequences (entry p (k / 64)) (k % 64) sm)) (length (conditions_of p)) (length (sequences_of p)) i c (entry p i) few l (held_formula p i at).names
          (λ a b _ _ y. nf.kept (key a b) y) (λ a b _ _ y. ns.kept (key a b) y) x

-- before the first key
pub start : (p : Property) (fs ss : List Bool) → Clocks p fs → Clocks p ss → length fs ≡ 4096 → length ss ≡ 4096 → length (formulas_of p) ≤ 64
    → ((i c : ℕ) → i < length (formulas_of p) → c < 64 → 64 * length (formulas_of p) ≤ key i c → ⊥) → Inv p fs ss fs ss (64 * length (formulas_of p))
start p fs ss clocks_in_f clocks_in_s long_f long_s few above =
    ((λ i c l m. m), (λ i c l m. m), clocks_in_f, clocks_in_s, (λ i c there l u m. absurd (above i c there l u)), (λ fo so closed in_f in-s. (in_f, in-s)), long_f, long_s)

abbrev pub At : Property → List Bool → List Bool → ℕ → marks.Marks → Type 0
At p fs ss k m = Inv p fs ss m.formulas m.sequences k

-- by going down over all keys below k
pub meets : (p : Property) → length (conditions_of p) ≤ 64 → length (sequences_of p) ≤ 64 → length (formulas_of p) ≤ 64 → (fs ss : List Bool) (k : ℕ)
    → k ≤ 64 * length (formulas_of p) → (m : marks.Marks) → At p fs ss k m → At p fs ss 0 (meet_formulas (formulas_of p) k m)
unfolding meet_formulas
meets p few few_s few_f fs ss zero h m inv = inv
meets p few few_s few_f fs ss (suc k) h m inv =
    let low : k < 64 * length (formulas_of p) = omega arith in
    let here : At p fs ss (k + 1) m = subst (λ j. At p fs ss j m) (sym (add-one k)) inv in
    meets_one (get_or m.formulas k false) (At p fs ss k) (λ z. At p fs ss 0 (meet_formulas (formulas_of p) k z)) _ m
    (meets p few few_s few_f fs ss k (omega arith))
    (step_yes p few few_s few_f fs ss m.formulas m.sequences k low here) (step_no p few few_s few_f fs ss m.formulas m.sequences k low here)

-- one key further down, marked or not
pub meet_yes : (fs : List entryF.Formula) (k : ℕ) (m : marks.Marks) → get_or m.formulas k false ≡ true
    → meet_formulas fs (k + 1) m ≡ meet_formulas fs k (with_parts (get_or fs (k / 64) (f.Strong 0)) (k % 64) m)
unfolding meet_formulas
meet_yes fs k m e =
    ap (λ j. meet_formulas fs j m) (add-one k) ∙ ap (λ b. meet_formulas fs k (cond b (with_parts (get_or fs (k / 64) (f.Strong 0)) (k % 64) m) m)) e

pub meet_no : (fs : List entryF.Formula) (k : ℕ) (m : marks.Marks) → get_or m.formulas k false ≡ false → meet_formulas fs (k + 1) m ≡ meet_formulas fs k m
unfolding meet_formulas
meet_no fs k m e =
    ap (λ j. meet_formulas fs j m) (add-one k) ∙ ap (λ b. meet_formulas fs k (cond b (with_parts (get_or fs (k / 64) (f.Strong 0)) (k % 64) m) m)) e

pub meet_all : (fs : List entryF.Formula) (k : ℕ) (m : marks.Marks) → k ≡ 0 → m ≡ meet_formulas fs k m
unfolding meet_formulas
meet_all fs k m e = ap (λ j. meet_formulas fs j m) (sym e)
