-- The questions put to a property file, and the entries that an accepted one spells.
use Rattle.std.specs.Prelude.{ℕ, ◌+◌, ◌*◌, ◌&&◌, leb, List, [], ◌∷◌, ◌++◌, length, take, drop, Some, None, Option, nat_le, slice_index}
use Rattle.answer.specs.Questions.{Question, ◌otherwise◌}
use Rattle.psl.specs.declared.entry.Condition.{Condition}
use Rattle.psl.specs.declared.entry.Sequence.{Sequence}
use Rattle.psl.specs.declared.entry.Formula.{Formula}
use Rattle.file.specs.declared.refusal.Refusal.{Refusal}
use Rattle.file.specs.declared.refusal.Section.{Section}
use Rattle.file.specs.declared.refusal.Section.TheVariants.{Conditions, Sequences, Formulas}
use Rattle.file.specs.declared.refusal.Reason.{Reason}
use Rattle.file.specs.declared.refusal.Reason.TheVariants.{CountCutShort, CountOutsideLimits, EntriesCutShort, BytesLeftOver}
use Rattle.file.specs.Refusals.{least_count}
use Rattle.file.specs.declared.raw.Raw.{Raw}
use Rattle.file.specs.Kinds.{raw, wide_number}
use Rattle.file.specs.Rules.{Rules, about_entry, condition_rules, sequence_rules, formula_rules}

abbrev pub refusal : Section → ℕ → Reason → Refusal
refusal s o f = record { reason = f; section = s; offset = o }

-- the count that stands at offset o
abbrev pub count_at : List ℕ → ℕ → ℕ
count_at bytes o = wide_number (slice_index bytes o) (slice_index bytes (o + 1))

-- where the section ends whose count stands at o
abbrev pub after : List ℕ → ℕ → ℕ
after bytes o = o + 2 + 5 * count_at bytes o

-- where the counts of the second and the third section stand, and where the third section ends
abbrev pub second : List ℕ → ℕ
second bytes = after bytes 0

abbrev pub third : List ℕ → ℕ
third bytes = after bytes (second bytes)

abbrev pub file_end : List ℕ → ℕ
file_end bytes = after bytes (third bytes)

-- the section whose count stands at o: is its count there, within its limits, and are its entries there
unfoldable pub about_section : Section → List ℕ → ℕ → List (Question Refusal)
about_section s bytes o =
    (leb (o + 2) (length bytes) otherwise refusal s o CountCutShort)
    ∷ ((nat_le (least_count s) (count_at bytes o) && nat_le (count_at bytes o) 64) otherwise refusal s o CountOutsideLimits)
    ∷ (leb (after bytes o) (length bytes) otherwise refusal s (o + 2) EntriesCutShort)
    ∷ []

-- the three sections, and then the end of the file
unfoldable pub about_layout : List ℕ → List (Question Refusal)
about_layout bytes =
    about_section Conditions bytes 0 ++ (about_section Sequences bytes (second bytes) ++ (about_section Formulas bytes (third bytes)
    ++ ((leb (length bytes) (file_end bytes) otherwise refusal Formulas (file_end bytes) BytesLeftOver) ∷ [])))

-- the entries that bytes are, five each
abbrev pub raws : List ℕ → List Raw
raws [] = []
raws (k ∷ []) = []
raws (k ∷ (a1 ∷ [])) = []
raws (k ∷ (a1 ∷ (a0 ∷ []))) = []
raws (k ∷ (a1 ∷ (a0 ∷ (b1 ∷ [])))) = []
raws (k ∷ (a1 ∷ (a0 ∷ (b1 ∷ (b0 ∷ rest))))) = raw k (wide_number a1 a0) (wide_number b1 b0) ∷ raws rest

-- the entries of the section whose count stands at o
unfoldable pub entries_at : List ℕ → ℕ → List Raw
entries_at bytes o = raws (take (5 * count_at bytes o) (drop (o + 2) bytes))

-- questions about the entry at offset o of section s
abbrev pub located : Section → ℕ → List (Question Reason) → List (Question Refusal)
located s o [] = []
located s o ((b otherwise f) ∷ qs) = (b otherwise refusal s o f) ∷ located s o qs

-- the entries that are spelled
abbrev pub listed : {E : Type 0} → Option E → List E
listed None = []
listed (Some e) = e ∷ []

abbrev pub spelled : {E : Type 0} → Rules E → List Raw → List E
spelled rules [] = []
spelled rules (x ∷ xs) = listed (rules.spelled x) ++ spelled rules xs

-- all questions to each entry of section s before those to the next, the first entry at offset o
abbrev pub about_entries : {E : Type 0} → Rules E → Section → ℕ → List E → List Raw → List (Question Refusal)
about_entries rules s o before [] = []
about_entries rules s o before (x ∷ xs) =
    located s o (about_entry (rules.spelled x) (rules.about before))
    ++ about_entries rules s (o + 5) (before ++ listed (rules.spelled x)) xs

-- the entries that a file spells
abbrev pub conditions_in : List ℕ → List Condition
conditions_in bytes = spelled condition_rules (entries_at bytes 0)

abbrev pub sequences_in : List ℕ → List Sequence
sequences_in bytes = spelled (sequence_rules (count_at bytes 0)) (entries_at bytes (second bytes))

abbrev pub formulas_in : List ℕ → List Formula
formulas_in bytes = spelled (formula_rules (count_at bytes 0) (count_at bytes (second bytes))) (entries_at bytes (third bytes))

-- the questions to the entries of each section
unfoldable pub about_conditions : List ℕ → List (Question Refusal)
about_conditions bytes = about_entries condition_rules Conditions 2 [] (entries_at bytes 0)

unfoldable pub about_sequences : List ℕ → List (Question Refusal)
about_sequences bytes = about_entries (sequence_rules (count_at bytes 0)) Sequences (second bytes + 2) [] (entries_at bytes (second bytes))

unfoldable pub about_formulas : List ℕ → List (Question Refusal)
about_formulas bytes =
    about_entries (formula_rules (count_at bytes 0) (count_at bytes (second bytes))) Formulas (third bytes + 2) [] (entries_at bytes (third bytes))

-- every question put to a file, in order
unfoldable pub questions : List ℕ → List (Question Refusal)
questions bytes = about_layout bytes ++ (about_conditions bytes ++ (about_sequences bytes ++ about_formulas bytes))
