-- The image of an entry, over the images of its operands.
use Rattle.std.proofs.Common.{◌≡◌, ℕ, ◌<◌, true, ◌&&◌, ltb, List, length, get_or, take, Some, sym, refl, ap, ◌∙◌, subst, ap₂, arith, get_or-take}
use Rattle.std.specs.List.{slice_get}
use Rattle.std.proofs.lemmas.Option.{get_or_from_slice_get}
use Rattle.std.proofs.lemmas.Bool.{ltb-true, and_parts}
use Rattle.psl.specs.Syntax.{Sequence, falsity, empty, condition, concat, fusion, either, both, star}
use Rattle.psl.specs.Removal.{unclock_sequence}
use Rattle.psl.specs.Table.{conditions, sequence_of, sequences}
use Rattle.psl.specs.declared.entry.Sequence as entryS
use Rattle.psl.specs.declared.entry.Sequence.TheVariants as s
use Rattle.psl.proofs.Grow.{grow_at}
use Rattle.file.specs.Operands.{sequence_names}
use Rattle.property.specs.declared.place.Property.{Property}
use Rattle.property.specs.Place.{conditions_of, sequences_of, condition_trees, sequence_trees}
use Rattle.form.specs.Entries.{SequenceAt}
use Rattle.form.specs.declared.draft.Draft as code
use Rattle.form.specs.Draft.{conditions_in, sequences_in, AddedSequence}
use Rattle.form.specs.Pairs.{key, sequence_adds_conditions, sequence_adds_sequences}
use Rattle.form.specs.SequenceImages.{sequence_image, ForOperands, SequencePlaced, WroteSequence}
use Rattle.form.proofs.Grown.{sequence_as}

module _ (p : Property) where
  -- the image of an entry, by those of its operands
  abbrev pub rewritten : entryS.Sequence → ℕ → Sequence
  rewritten (s.Condition a) c = unclock_sequence (get_or (condition_trees p) c falsity) (condition (get_or (condition_trees p) a falsity))
  rewritten (s.Concat a b) c = concat (sequence_image p a c) (sequence_image p b c)
  rewritten (s.Fusion a b) c = fusion (sequence_image p a c) (sequence_image p b c)
  rewritten (s.Either a b) c = either (sequence_image p a c) (sequence_image p b c)
  rewritten (s.Both a b) c = both (sequence_image p a c) (sequence_image p b c)
  rewritten s.Empty c = empty
  rewritten (s.Star a) c = star (sequence_image p a c)
  rewritten (s.At a d) c = sequence_image p a d

  module _ (i c : ℕ) (h : i < length (sequences_of p)) where
    tree_at : get_or (sequence_trees p) i empty ≡ sequence_of (condition_trees p) (take i (sequence_trees p)) (get_or (sequences_of p) i (s.Condition 0))
    unfolding sequence_trees sequences
    tree_at = grow_at (sequence_of (condition_trees p)) (s.Condition 0) empty (sequences_of p) i h

    lower : (a d : ℕ) → a < i → unclock_sequence (get_or (condition_trees p) d falsity) (get_or (take i (sequence_trees p)) a empty) ≡ sequence_image p a d
    lower a d l = ap (unclock_sequence (get_or (condition_trees p) d falsity)) (get_or-take i (sequence_trees p) a empty l)

    two : (f : Sequence → Sequence → Sequence) (a b : ℕ) → (ltb a i && ltb b i) ≡ true
        → f (unclock_sequence (get_or (condition_trees p) c falsity) (get_or (take i (sequence_trees p)) a empty)) (unclock_sequence (get_or (condition_trees p) c falsity) (get_or (take i (sequence_trees p)) b empty))
        ≡ f (sequence_image p a c) (sequence_image p b c)
    two f a b q = let h = and_parts (ltb a i) (ltb b i) q in ap₂ f (lower a c (ltb-true a i h.0)) (lower b c (ltb-true b i h.1))

    rewritten_is : (n : ℕ) (e : entryS.Sequence) → sequence_names n i e ≡ true
        → unclock_sequence (get_or (condition_trees p) c falsity) (sequence_of (condition_trees p) (take i (sequence_trees p)) e) ≡ rewritten e c
    rewritten_is n (s.Condition a) q = refl
    rewritten_is n (s.Concat a b) q = two concat a b q
    rewritten_is n (s.Fusion a b) q = two fusion a b q
    rewritten_is n (s.Either a b) q = two either a b q
    rewritten_is n (s.Both a b) q = two both a b q
    rewritten_is n s.Empty q = refl
    rewritten_is n (s.Star a) q = ap star (lower a c (ltb-true a i q))
    rewritten_is n (s.At a d) q = lower a d (ltb-true a i (and_parts (ltb a i) _ q).0)

    pub image_is : (e : entryS.Sequence) → SequenceAt p i e → sequence_image p i c ≡ rewritten e c
    image_is e told =
        ap (unclock_sequence (get_or (condition_trees p) c falsity)) (tree_at ∙ ap (sequence_of (condition_trees p) (take i (sequence_trees p))) (sym told.is))
        ∙ rewritten_is (length (conditions_of p)) e told.names

    pub ready_at : (d : code.Draft) (places : List ℕ) (e : entryS.Sequence) → SequenceAt p i e → ForOperands (SequencePlaced p d places) (get_or (sequences_of p) i (s.Condition 0)) c → ForOperands (SequencePlaced p d places) e c
    ready_at d places e told ready = subst (λ e. ForOperands (SequencePlaced p d places) e c) (sym told.is) ready

    module _ (d d' : code.Draft) (e : entryS.Sequence) (told : SequenceAt p i e) where
      -- one entry that is the image
      pub wrote : (x : entryS.Sequence) (r : ℕ) → AddedSequence d d' x r → sequence_of (conditions (conditions_in d)) (sequences (conditions (conditions_in d)) (sequences_in d)) x ≡ rewritten e c
          → sequence_adds_conditions e ≡ 0 → sequence_adds_sequences e ≡ 1 → WroteSequence p i c d d' r
      wrote x r new same zero_c one_s =
          record {
            grows = new.grows;
            is = sequence_as (same ∙ sym (image_is e told)) new.is;
            count_c = omega (arith, new.count_c, zero_c, ap sequence_adds_conditions told.is);
            count_s = omega (arith, new.count_s, one_s, ap sequence_adds_sequences told.is);
            count_f = new.count_f;
          }

  -- an operand, where it was placed
  pub operand : (d : code.Draft) (places : List ℕ) (k a b : ℕ) → slice_get places (key a b) ≡ Some k → SequencePlaced p d places a b → get_or (sequences (conditions (conditions_in d)) (sequences_in d)) k empty ≡ sequence_image p a b
  operand d places k a b is placed = ap (λ k. get_or (sequences (conditions (conditions_in d)) (sequences_in d)) k empty) (sym (get_or_from_slice_get places (key a b) k 0 is)) ∙ placed.is
