-- The first no to the layout of a file, section by section.
use Rattle.std.proofs.Common.{◌≡◌, ℕ, ◌+◌, ◌*◌, ◌<◌, ◌≤◌, false, ◌&&◌, leb, ◌⊎◌, List, [], ◌∷◌, ◌++◌, length, Result, ap, ◌∙◌, subst, ⊎_elim}
use mathlib.Core.Option.{none, some}
use Rattle.std.proofs.lemmas.Bool.{le-leb, lt-leb, and_left, and_right}
use Rattle.answer.specs.Questions.{Question, ◌otherwise◌, first_no}
use Rattle.answer.proofs.FirstNo.{pass, stop}
use Rattle.file.specs.declared.refusal.Refusal.{Refusal}
use Rattle.file.specs.declared.refusal.Section.{Section}
use Rattle.file.specs.declared.refusal.Section.TheVariants.{Conditions, Sequences, Formulas}
use Rattle.file.specs.declared.refusal.Reason.TheVariants.{CountCutShort, CountOutsideLimits, EntriesCutShort, BytesLeftOver}
use Rattle.file.specs.Refusals.{least_count}
use Rattle.file.specs.File.{refusal, count_at, after, second, third, file_end, about_section, about_layout}
use Rattle.file.specs.Layout.{CountsSection, SectionThere}

module _ (s : Section) (bytes : List ℕ) (o : ℕ) where
  pub count_missing : length bytes < o + 2 → first_no (about_section s bytes o) ≡ some (refusal s o CountCutShort)
  unfolding about_section
  count_missing h = rw (lt-leb (o + 2) (length bytes) h)

  pub count_outside : o + 2 ≤ length bytes → (count_at bytes o < least_count s) ⊎ (64 < count_at bytes o)
      → first_no (about_section s bytes o) ≡ some (refusal s o CountOutsideLimits)
  unfolding about_section
  count_outside h k =
      let n = count_at bytes o in
      let bad : (leb (least_count s) n && leb n 64) ≡ false =
      ⊎_elim (λ k. and_left _ _ (lt-leb (least_count s) n k)) (λ k. and_right (leb (least_count s) n) _ (lt-leb n 64 k)) k in
      rw (le-leb (o + 2) (length bytes) h, bad)

  pub entries_missing : o + 2 ≤ length bytes → least_count s ≤ count_at bytes o → count_at bytes o ≤ 64 → length bytes < after bytes o
      → first_no (about_section s bytes o) ≡ some (refusal s (o + 2) EntriesCutShort)
  unfolding about_section
  entries_missing h low high k =
      rw (le-leb (o + 2) (length bytes) h, le-leb (least_count s) (count_at bytes o) low, le-leb (count_at bytes o) 64 high, lt-leb (after bytes o) (length bytes) k)

  pub section_whole : o + 2 ≤ length bytes → least_count s ≤ count_at bytes o → count_at bytes o ≤ 64 → after bytes o ≤ length bytes
      → first_no (about_section s bytes o) ≡ none
  unfolding about_section
  section_whole h low high k =
      rw (le-leb (o + 2) (length bytes) h, le-leb (least_count s) (count_at bytes o) low, le-leb (count_at bytes o) 64 high, le-leb (after bytes o) (length bytes) k)

-- what is found where the reader looks for a section is found where the section stands
module _ (bytes : List ℕ) (n : ℕ) (one : SectionThere Conditions bytes 0 n) where
  pub at_second : (r : Result ℕ Refusal) → CountsSection Sequences bytes (2 + 5 * n) r → CountsSection Sequences bytes (second bytes) r
  at_second r = subst (λ k. CountsSection Sequences bytes (2 + 5 * k) r) one.value

  pub at_third : (m : ℕ) → SectionThere Sequences bytes (second bytes) m → (r : Result ℕ Refusal)
      → CountsSection Formulas bytes (2 + 5 * n + 2 + 5 * m) r → CountsSection Formulas bytes (third bytes) r
  at_third m two r h =
      subst (λ k. CountsSection Formulas bytes (second bytes + 2 + 5 * k) r) two.value
      (subst (λ k. CountsSection Formulas bytes (2 + 5 * k + 2 + 5 * m) r) one.value h)

  pub at_end : (m k : ℕ) → SectionThere Sequences bytes (second bytes) m → SectionThere Formulas bytes (third bytes) k
      → 2 + 5 * n + 2 + 5 * m + 2 + 5 * k ≡ file_end bytes
  at_end m k two three =
      ap (λ i. 2 + 5 * i + 2 + 5 * m + 2 + 5 * k) one.value
      ∙ ap (λ i. second bytes + 2 + 5 * i + 2 + 5 * k) two.value
      ∙ ap (λ i. third bytes + 2 + 5 * i) three.value

-- the first no to the layout is that of its first part with a no
module _ (bytes : List ℕ) where
  abbrev end_of_file : List (Question Refusal)
  end_of_file = (leb (length bytes) (file_end bytes) otherwise refusal Formulas (file_end bytes) BytesLeftOver) ∷ []

  pub first_section_no : (r : Refusal) → first_no (about_section Conditions bytes 0) ≡ some r → first_no (about_layout bytes) ≡ some r
  unfolding about_layout
  first_section_no r p = stop r (about_section Conditions bytes 0) _ p

  module _ (one : first_no (about_section Conditions bytes 0) ≡ none) where
    past_one : first_no (about_layout bytes) ≡ first_no (about_section Sequences bytes (second bytes) ++ (about_section Formulas bytes (third bytes) ++ end_of_file))
    unfolding about_layout
    past_one = pass (about_section Conditions bytes 0) _ one

    pub second_section_no : (r : Refusal) → first_no (about_section Sequences bytes (second bytes)) ≡ some r → first_no (about_layout bytes) ≡ some r
    second_section_no r p = past_one ∙ stop r (about_section Sequences bytes (second bytes)) _ p

    module _ (two : first_no (about_section Sequences bytes (second bytes)) ≡ none) where
      past_two : first_no (about_layout bytes) ≡ first_no (about_section Formulas bytes (third bytes) ++ end_of_file)
      past_two = past_one ∙ pass (about_section Sequences bytes (second bytes)) _ two

      pub third_section_no : (r : Refusal) → first_no (about_section Formulas bytes (third bytes)) ≡ some r → first_no (about_layout bytes) ≡ some r
      third_section_no r p = past_two ∙ stop r (about_section Formulas bytes (third bytes)) _ p

      module _ (three : first_no (about_section Formulas bytes (third bytes)) ≡ none) where
        past_three : first_no (about_layout bytes) ≡ first_no end_of_file
        past_three = past_two ∙ pass (about_section Formulas bytes (third bytes)) end_of_file three

        pub bytes_left_over : file_end bytes < length bytes → first_no (about_layout bytes) ≡ some (refusal Formulas (file_end bytes) BytesLeftOver)
        bytes_left_over h = past_three ∙ rw (lt-leb (length bytes) (file_end bytes) h)

        pub layout_whole : length bytes ≤ file_end bytes → first_no (about_layout bytes) ≡ none
        layout_whole h = past_three ∙ rw (le-leb (length bytes) (file_end bytes) h)

-- what is known of one section, and of the three
pub ruleset of_section = (count_missing, count_outside, entries_missing, section_whole)

pub ruleset of_sections = (at_second, at_third, at_end, first_section_no, second_section_no, third_section_no, bytes_left_over, layout_whole)
