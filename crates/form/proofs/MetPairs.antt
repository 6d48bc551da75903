-- The marks that are made are the least closed ones.
use Rattle.std.proofs.Common.{◌≡◌, ℕ, zero, suc, ◌-◌, ◌*◌, ◌<◌, ◌≤◌, Bool, true, false, List, length, get_or, set, replicate, refl, ap, ◌∙◌, ⊎_elim, arith, length-set}
use Rattle.std.proofs.lemmas.List.{length-replicate}
use Rattle.std.proofs.lemmas.Bool.{both_ways}
use Rattle.property.specs.declared.place.Property.{Property}
use Rattle.property.specs.Place.{conditions_of, sequences_of, formulas_of}
use Rattle.property.proofs.Held.{few_conditions, some_conditions, few_sequences, few_formulas, some_formulas}
use Rattle.form.proofs.Held.{held_formula}
use Rattle.form.specs.Pairs.{key}
use Rattle.form.specs.SequenceImages.{Marked, SequencesClosed}
use Rattle.form.specs.FormulaImages.{FormulasClosed}
use Rattle.form.specs.Met.{Marks, unmarked, root_marked, formulas_met, met, meet_sequences, Within, Closed, LeastClosed}
use Rattle.form.proofs.FormulaSteps.{for_parts}
use Rattle.form.proofs.SequenceMarks as sequence
use Rattle.form.proofs.PutMarks.{put_same, put_only}
use Rattle.form.proofs.FormulaMarks as formula

replicate_at : (n k : ℕ) → get_or (replicate n false) k false ≡ false
replicate_at zero k = refl
replicate_at (suc n) zero = refl
replicate_at (suc n) (suc k) = replicate_at n k

module _ (p : Property) where
  abbrev root : ℕ
  root = key (length (formulas_of p) - 1) 0

  abbrev first : List Bool
  first = set unmarked root true

  root_fits : root < length unmarked
  root_fits = omega (arith, length-replicate 4096 false, few_formulas p, some_formulas p)

  -- nothing is marked but the root
  first_only : (i c : ℕ) → c < 64 → Marked first i c → c ≡ 0
  first_only i c l m =
      ⊎_elim (λ is. omega arith) (λ was. absurd (both_ways (get_or unmarked (key i c) false) (replicate_at 4096 (key i c)) was)) (put_only unmarked root (key i c) root_fits m)

  none_marked : (i c : ℕ) → Marked unmarked i c → ⊥
  none_marked i c m = both_ways (get_or unmarked (key i c) false) (replicate_at 4096 (key i c)) m

  formulas_made : formula.Inv p first unmarked (formulas_met p).formulas (formulas_met p).sequences 0
  unfolding formulas_met
  formulas_made =
      formula.meets p (few_conditions p) (few_sequences p) (few_formulas p) first unmarked (64 * length (formulas_of p)) (omega arith) (root_marked p)
      (formula.start p first unmarked
      (λ i c l m. omega (arith, first_only i c l m, some_conditions p))
      (λ i c l m. absurd (none_marked i c m))
      (length-set unmarked root true ∙ length-replicate 4096 false) (length-replicate 4096 false) (few_formulas p) (λ i c there l u. omega arith))

  abbrev used : List Bool
  used = (formulas_met p).sequences

  sequences_made : sequence.Inv p used (meet_sequences (sequences_of p) (64 * length (sequences_of p)) used) 0
  sequences_made =
      sequence.meets p (few_conditions p) (few_sequences p) used (64 * length (sequences_of p)) (omega arith) used (sequence.start p used formulas_made.3 formulas_made.7)

  pub met_least : LeastClosed p (met p)
  unfolding met
  met_least = record { closed = closed; formulas = λ other is. (below other is).0; sequences = in_sequences }
    where
      low : (i c : ℕ) → 0 ≤ key i c
      low i c = omega arith

      closed_s : SequencesClosed p (met p).sequences
      closed_s i c there l m = (sequences_made.1 i c l m, sequences_made.2 i c there l (low i c) m)

      closed_f : FormulasClosed p (met p).formulas (met p).sequences
      closed_f i c there l m = (
        formulas_made.2 i c l m,
        for_parts (Marked (met p).formulas) (Marked (met p).formulas) (Marked used) (Marked (met p).sequences) (length (conditions_of p)) (length (sequences_of p)) i c _
            (few_conditions p) l (held_formula p i there).names (λ a b _ _ y. y) (λ a b _ small y. sequences_made.0 a b small y) (formulas_made.4 i c there l (low i c) m),
      )

      closed : Closed p (met p)
      closed = record { root = formulas_made.0 _ 0 (omega arith) (put_same unmarked root root_fits); formulas = closed_f; sequences = closed_s }

      rooted : (other : Marks) → Closed p other → Within first other.formulas
      rooted other is i c l m =
          ⊎_elim (λ at. ap (λ j. get_or other.formulas j false) at ∙ is.root)
          (λ was. absurd (none_marked i c was)) (put_only unmarked root (key i c) root_fits m)

      below : (other : Marks) → Closed p other → Within (met p).formulas other.formulas × Within used other.sequences
      below other is = formulas_made.5 other.formulas other.sequences is.formulas (rooted other is) (λ i c l m. absurd (none_marked i c m))

      in_sequences : (other : Marks) → Closed p other → Within (met p).sequences other.sequences
      in_sequences other is = sequences_made.3 other.sequences is.sequences (below other is).1
