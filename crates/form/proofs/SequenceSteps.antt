-- The pass over the pairs of sequences and clocks.
use Rattle.std.proofs.Common.{◌≡◌, ℕ, ◌+◌, ◌*◌, ◌/◌, ◌%◌, ◌<◌, ◌≤◌, Bool, true, false, ltb, ◌≢◌, List, length, get_or, set, sym, ap, ◌∙◌, subst, ap₂, ⊎_elim, arith, get_or-set_other, get_or-set_same}
use Rattle.std.proofs.lemmas.Bool.{ltb-true, and_parts, cases_lt, both_ways}
use Rattle.psl.specs.declared.entry.Sequence as entryS
use Rattle.psl.specs.declared.entry.Sequence.TheVariants as s
use Rattle.file.specs.Operands.{sequence_names}
use Rattle.property.specs.declared.place.Property.{Property}
use Rattle.property.specs.Place.{conditions_of, sequences_of}
use Rattle.form.proofs.Held.{held_sequence}
use Rattle.form.specs.declared.draft.Draft as code
use Rattle.form.specs.Draft.{conditions_in, sequences_in, SequenceIs}
use Rattle.form.specs.Pairs.{key, sequence_adds_conditions, sequence_adds_sequences, total}
use Rattle.form.specs.SequenceImages.{sequence_image, ForOperands, SequencePlaced, WroteSequence, Marked, SequencesClosed, SequencesStand}
use Rattle.form.proofs.Totals.{total_mono, total_yes, total_no}
use Rattle.form.proofs.Grown.{keep_condition, keep_sequence, grows_twice}

-- what holds of the operands' pairs, all lower
pub for_operands : (P Q : ℕ → ℕ → Type 0) (n i c : ℕ) (e : entryS.Sequence) → n ≤ 64 → c < 64 → sequence_names n i e ≡ true
    → ((a b : ℕ) → a < i → b < 64 → P a b → Q a b) → ForOperands P e c → ForOperands Q e c
for_operands P Q n i c (s.Condition a) few l names f x = tt
for_operands P Q n i c (s.Concat a b) few l names f x = let h = and_parts (ltb a i) (ltb b i) names in (f a c (ltb-true a i h.0) l x.0, f b c (ltb-true b i h.1) l x.1)
for_operands P Q n i c (s.Fusion a b) few l names f x = let h = and_parts (ltb a i) (ltb b i) names in (f a c (ltb-true a i h.0) l x.0, f b c (ltb-true b i h.1) l x.1)
for_operands P Q n i c (s.Either a b) few l names f x = let h = and_parts (ltb a i) (ltb b i) names in (f a c (ltb-true a i h.0) l x.0, f b c (ltb-true b i h.1) l x.1)
for_operands P Q n i c (s.Both a b) few l names f x = let h = and_parts (ltb a i) (ltb b i) names in (f a c (ltb-true a i h.0) l x.0, f b c (ltb-true b i h.1) l x.1)
for_operands P Q n i c s.Empty few l names f x = tt
for_operands P Q n i c (s.Star a) few l names f x = f a c (ltb-true a i names) l x
for_operands P Q n i c (s.At a d) few l names f x =
    let h = and_parts (ltb a i) (ltb d n) names in
    let low : d < 64 = omega (arith, ltb-true d n h.1) in
    f a d (ltb-true a i h.0) low x

pub whole : (k : ℕ) → key (k / 64) (k % 64) ≡ k
whole k = omega arith

pub inside : (k n : ℕ) → k < 64 * n → k / 64 < n
inside k n h = omega arith

pub clock_small : (k : ℕ) → k % 64 < 64
clock_small k = omega arith

pub entry_of : (i c k : ℕ) → c < 64 → key i c ≡ k → i ≡ k / 64
entry_of i c k l e = omega arith

pub clock_of : (i c k : ℕ) → c < 64 → key i c ≡ k → c ≡ k % 64
clock_of i c k l e = omega arith

module _ (p : Property) (met : List Bool) (d₀ d : code.Draft) (places : List ℕ) (k : ℕ) (inv : SequencesStand p met d₀ d places k) where
  pub step_no : get_or met k false ≡ false → SequencesStand p met d₀ d places (k + 1)
  step_no e = (
    inv.0,
    inv.1,
    (λ i c l h m. ⊎_elim (λ h'. inv.2 i c l h' m)
        (λ h'. let is : key i c ≡ k = omega arith in absurd (both_ways (get_or met k false) e (ap (λ k. get_or met k false) (sym is) ∙ m)))
        (cases_lt (key i c) k)),
    inv.3 ∙ ap (λ x. length (conditions_in d₀) + x) (sym (total_no (s.Condition 0) sequence_adds_conditions (sequences_of p) met k e)),
    inv.4 ∙ ap (λ x. length (sequences_in d₀) + x) (sym (total_no (s.Condition 0) sequence_adds_sequences (sequences_of p) met k e)),
    inv.5,
  )

  pub step_yes : (d' : code.Draft) (r : ℕ) → get_or met k false ≡ true → k < length places → WroteSequence p (k / 64) (k % 64) d d' r → SequencesStand p met d₀ d' (set places k r) (k + 1)
  step_yes d' r e room new = (
    grows_twice inv.0 new.grows,
    (λ j h. keep_condition new.grows (inv.1 j h)),
    (λ i c l h m. ⊎_elim (λ h'. old i c h' (inv.2 i c l h' m)) (λ h'. let is : key i c ≡ k = omega arith in here i c l is) (cases_lt (key i c) k)),
    (let q = total_yes (s.Condition 0) sequence_adds_conditions (sequences_of p) met k e in omega (arith, q, new.count_c, inv.3)),
    (let q = total_yes (s.Condition 0) sequence_adds_sequences (sequences_of p) met k e in omega (arith, q, new.count_s, inv.4)),
    new.count_f ∙ inv.5,
  )
    where
      old : (i c : ℕ) → key i c < k → SequencePlaced p d places i c → SequencePlaced p d' (set places k r) i c
      old i c h was =
          let ne : key i c ≢ k = omega arith in
          subst (λ x. SequenceIs d' x (sequence_image p i c)) (sym (get_or-set_other places k (key i c) r 0 ne)) (keep_sequence new.grows was)

      here : (i c : ℕ) → c < 64 → key i c ≡ k → SequencePlaced p d' (set places k r) i c
      here i c l is =
          subst (λ x. SequenceIs d' x (sequence_image p i c)) (sym (ap (λ j. get_or (set places k r) j 0) is ∙ get_or-set_same places k r 0 room))
          (subst (λ t. SequenceIs d' r t) (ap₂ (sequence_image p) (sym (entry_of i c k l is)) (sym (clock_of i c k l is))) new.is)

  -- what the writer of one pair requires
  pub ready_here : SequencesClosed p met → get_or met k false ≡ true → k < 64 * length (sequences_of p) → length (conditions_of p) ≤ 64
      → (k % 64 < length (conditions_of p)) × ForOperands (SequencePlaced p d places) (get_or (sequences_of p) (k / 64) (s.Condition 0)) (k % 64)
  ready_here closed e h few =
      let i = k / 64 in
      let c = k % 64 in
      let there : i < length (sequences_of p) = inside k (length (sequences_of p)) h in
      let small : c < 64 = clock_small k in
      let told = closed i c there small (ap (λ j. get_or met j false) (whole k) ∙ e) in (
        told.0,
        for_operands (Marked met) (SequencePlaced p d places) (length (conditions_of p)) i c (get_or (sequences_of p) i (s.Condition 0)) few small (held_sequence p i there).names
            (λ a b l m x. inv.2 a b m (below a b l m) x) told.1,
      )
    where
      below : (a b : ℕ) → a < k / 64 → b < 64 → key a b < k
      below a b l m = omega arith

  pub room_here : (n : ℕ) → k < n → get_or met k false ≡ true → (length (conditions_in d₀) + total (s.Condition 0) sequence_adds_conditions (sequences_of p) met n ≤ 256) × (length (sequences_in d₀) + total (s.Condition 0) sequence_adds_sequences (sequences_of p) met n ≤ 256)
      → (length (conditions_in d) + sequence_adds_conditions (get_or (sequences_of p) (k / 64) (s.Condition 0)) ≤ 256) × (length (sequences_in d) + sequence_adds_sequences (get_or (sequences_of p) (k / 64) (s.Condition 0)) ≤ 256)
  room_here n h e room =
      let c = total_yes (s.Condition 0) sequence_adds_conditions (sequences_of p) met k e in
      let r = total_yes (s.Condition 0) sequence_adds_sequences (sequences_of p) met k e in
      let c' = total_mono (s.Condition 0) sequence_adds_conditions (sequences_of p) met (k + 1) n (omega arith) in
      let r' = total_mono (s.Condition 0) sequence_adds_sequences (sequences_of p) met (k + 1) n (omega arith) in
      (omega (arith, c, c', inv.3, room.0), omega (arith, r, r', inv.4, room.1))
