-- One more pair whose operands are marked.
use Rattle.std.proofs.Common.{◌≡◌, ℕ, zero, suc, ◌+◌, ◌*◌, ◌/◌, ◌%◌, ◌<◌, ◌≤◌, Bool, true, false, cond, ltb, List, length, get_or, sym, ap, ◌∙◌, subst, ⊎_elim, add-one, arith}
use Rattle.std.proofs.lemmas.Bool.{ltb-true, and_parts, cases_lt, both_ways}
use Rattle.psl.specs.declared.entry.Sequence as entryS
use Rattle.psl.specs.declared.entry.Sequence.TheVariants as s
use Rattle.file.specs.Operands.{sequence_names}
use Rattle.property.specs.declared.place.Property.{Property}
use Rattle.property.specs.Place.{conditions_of, sequences_of}
use Rattle.form.proofs.Held.{held_sequence}
use Rattle.form.specs.Pairs.{key}
use Rattle.form.specs.SequenceImages.{ForOperands, Marked, SequencesClosed}
use Rattle.form.specs.Met.{with_operands, meet_sequences, Within, Clocks}
use Rattle.form.proofs.PutMarks.{Put, none, single, double, meets_one}
use Rattle.form.proofs.SequenceSteps.{for_operands, whole, inside, clock_small, entry_of, clock_of}

-- the marks of a sequence's operands
marked : (n i c : ℕ) → n ≤ 64 → (small : i ≤ 63) (l : c < 64) (e : entryS.Sequence) (met : List Bool) → length met ≡ 4096 → sequence_names n i e ≡ true
    → Put (λ P. ForOperands P e c) (64 * i) met (with_operands e c met)
marked n i c few small l (s.Condition a) met long q = none _ (64 * i) met tt
marked n i c few small l (s.Concat a b) met long q = double i c small l _ met a b long q (λ P x y. (x, y)) (λ Q x. x)
marked n i c few small l (s.Fusion a b) met long q = double i c small l _ met a b long q (λ P x y. (x, y)) (λ Q x. x)
marked n i c few small l (s.Either a b) met long q = double i c small l _ met a b long q (λ P x y. (x, y)) (λ Q x. x)
marked n i c few small l (s.Both a b) met long q = double i c small l _ met a b long q (λ P x y. (x, y)) (λ Q x. x)
marked n i c few small l s.Empty met long q = none _ (64 * i) met tt
marked n i c few small l (s.Star a) met long q = single i c small l _ met a c long q l (λ P x. x) (λ Q x. x)
marked n i c few small l (s.At a d) met long q =
    let h = and_parts (ltb a i) (ltb d n) q in
    let r : d < 64 = omega (arith, ltb-true d n h.1) in
    single i c small l _ met a d long h.0 r (λ P x. x) (λ Q x. x)

clocks_of : (n i c : ℕ) (e : entryS.Sequence) → c < n → sequence_names n i e ≡ true → ForOperands (λ a b. b < n) e c
clocks_of n i c (s.Condition a) h names = tt
clocks_of n i c (s.Concat a b) h names = (h, h)
clocks_of n i c (s.Fusion a b) h names = (h, h)
clocks_of n i c (s.Either a b) h names = (h, h)
clocks_of n i c (s.Both a b) h names = (h, h)
clocks_of n i c s.Empty h names = tt
clocks_of n i c (s.Star a) h names = h
clocks_of n i c (s.At a d) h names = ltb-true d n (and_parts (ltb a i) (ltb d n) names).1

abbrev entry : Property → ℕ → entryS.Sequence
entry p i = get_or (sequences_of p) i (s.Condition 0)

-- the pairs from key k on are done
abbrev pub Done : Property → List Bool → ℕ → Type 0
Done p met k = (i c : ℕ) → i < length (sequences_of p) → c < 64 → k ≤ key i c → Marked met i c → ForOperands (Marked met) (entry p i) c

abbrev pub Inv : Property → List Bool → List Bool → ℕ → Type 0
Inv p seed met k =
    Within seed met × Clocks p met × Done p met k
    × ((other : List Bool) → SequencesClosed p other → Within seed other → Within met other) × (length met ≡ 4096)

module _ (p : Property) (few : length (conditions_of p) ≤ 64) (few_s : length (sequences_of p) ≤ 64) (seed met : List Bool) (k : ℕ) (h : k < 64 * length (sequences_of p)) (inv : Inv p seed met (k + 1)) where
  pub step_no : get_or met k false ≡ false → Inv p seed met k
  step_no e = (
    inv.0,
    inv.1,
    (λ i c there l u m. ⊎_elim (λ u'. inv.2 i c there l (omega arith) m)
        (λ u'. let is : key i c ≡ k = omega arith in absurd (both_ways (get_or met k false) e (ap (λ j. get_or met j false) (sym is) ∙ m)))
        (cases_lt k (key i c))),
    inv.3,
    inv.4,
  )

  pub step_yes : get_or met k false ≡ true → Inv p seed (with_operands (entry p (k / 64)) (k % 64) met) k
  step_yes e = (
    (λ i c l m. new.kept (key i c) (inv.0 i c l m)),
    (λ i c l m. ⊎_elim (λ was. inv.1 i c l was)
        (λ x. let same : c ≡ x.1 = omega (arith, x.2, x.3) in subst (λ b. b < length (conditions_of p)) (sym same) x.4)
        (new.only (λ a b. b < length (conditions_of p)) (clocks_of (length (conditions_of p)) (k / 64) (k % 64) (entry p (k / 64)) clock names) (key i c) m)),
    (λ i c there l u m.
        let was : Marked met i c = new.upper (key i c) (omega arith) m in
        ⊎_elim
        (λ u'. spread i c l there (inv.2 i c there l (omega arith) was))
        (λ u'. let is : key i c ≡ k = omega arith in
        subst (λ j. ForOperands (Marked (with_operands (entry p (k / 64)) (k % 64) met)) (entry p j) c) (sym (entry_of i c k l is)) (subst (λ b. ForOperands (Marked (with_operands (entry p (k / 64)) (k % 64) met)) (entry p (k / 64)) b) (sym (clock_of i c k l is)) new.done))
        (cases_lt k (key i c))),
    (λ other closed in_seed i c l m.
        let low = inv.3 other closed in_seed in
        let told = (closed (k / 64) (k % 64) there (clock_small k) (low (k / 64) (k % 64) (clock_small k) here)).1 in
        ⊎_elim (λ was. low i c l was)
        (λ x. let same_c : c ≡ x.1 = omega (arith, x.2, x.3) in
        let same_i : i ≡ x.0 = omega (arith, x.2, x.3) in
        subst (λ j. Marked other j c) (sym same_i) (subst (λ b. Marked other x.0 b) (sym same_c) x.4))
        (new.only (Marked other) told (key i c) m)),
    new.long ∙ inv.4,
  )
    where
      there : k / 64 < length (sequences_of p)
      there = inside k (length (sequences_of p)) h

      names : sequence_names (length (conditions_of p)) (k / 64) (entry p (k / 64)) ≡ true
      names = (held_sequence p (k / 64) there).names

      here : Marked met (k / 64) (k % 64)
      here = ap (λ j. get_or met j false) (whole k) ∙ e

      clock : k % 64 < length (conditions_of p)
      clock = inv.1 (k / 64) (k % 64) (clock_small k) here

      new : Put (λ P. ForOperands P (entry p (k / 64)) (k % 64)) (64 * (k / 64)) met (with_operands (entry p (k / 64)) (k % 64) met)
      new = marked (length (conditions_of p)) (k / 64) (k % 64) few (omega arith) (clock_small k) (entry p (k / 64)) met inv.4 names

      spread : (i c : ℕ) → c < 64 → i < length (sequences_of p) → ForOperands (Marked met) (entry p i) c → ForOperands (Marked (with_operands (entry p (k / 64)) (k % 64) met)) (entry p i) c
      spread i c l at x =
          for_operands (Marked met) (Marked (with_operands (entry p (k / 64)) (k % 64) met)) (length (conditions_of p)) i c (entry p i) few l (held_sequence p i at).names (λ a b _ _ y. new.kept (key a b) y) x

-- before the first key
pub start : (p : Property) (seed : List Bool) → Clocks p seed → length seed ≡ 4096 → Inv p seed seed (64 * length (sequences_of p))
start p seed clocks long = ((λ i c l m. m), clocks, (λ i c there l u m. let z : ⊥ = omega arith in absurd z), (λ other closed in_seed. in_seed), long)

-- by going down over all keys below k
pub meets : (p : Property) → length (conditions_of p) ≤ 64 → length (sequences_of p) ≤ 64 → (seed : List Bool) (k : ℕ) → k ≤ 64 * length (sequences_of p)
    → (met : List Bool) → Inv p seed met k → Inv p seed (meet_sequences (sequences_of p) k met) 0
unfolding meet_sequences
meets p few few_s seed zero h met inv = inv
meets p few few_s seed (suc k) h met inv =
    let low : k < 64 * length (sequences_of p) = omega arith in
    let here : Inv p seed met (k + 1) = subst (Inv p seed met) (sym (add-one k)) inv in
    meets_one (get_or met k false) (λ z. Inv p seed z k) (λ z. Inv p seed (meet_sequences (sequences_of p) k z) 0) _ met
    (meets p few few_s seed k (omega arith))
    (step_yes p few few_s seed met k low here) (step_no p few few_s seed met k low here)

-- one key further down, marked or not
pub meet_yes : (rs : List entryS.Sequence) (k : ℕ) (met : List Bool) → get_or met k false ≡ true
    → meet_sequences rs (k + 1) met ≡ meet_sequences rs k (with_operands (get_or rs (k / 64) (s.Condition 0)) (k % 64) met)
unfolding meet_sequences
meet_yes rs k met e =
    ap (λ j. meet_sequences rs j met) (add-one k) ∙ ap (λ b. meet_sequences rs k (cond b (with_operands (get_or rs (k / 64) (s.Condition 0)) (k % 64) met) met)) e

pub meet_no : (rs : List entryS.Sequence) (k : ℕ) (met : List Bool) → get_or met k false ≡ false → meet_sequences rs (k + 1) met ≡ meet_sequences rs k met
unfolding meet_sequences
meet_no rs k met e =
    ap (λ j. meet_sequences rs j met) (add-one k) ∙ ap (λ b. meet_sequences rs k (cond b (with_operands (get_or rs (k / 64) (s.Condition 0)) (k % 64) met) met)) e

pub meet_all : (rs : List entryS.Sequence) (k : ℕ) (met : List Bool) → k ≡ 0 → met ≡ meet_sequences rs k met
unfolding meet_sequences
meet_all rs k met e = ap (λ j. meet_sequences rs j met) (sym e)
