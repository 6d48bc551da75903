-- What is known of the sections of a file once its layout is looked at.
use Rattle.std.specs.Prelude.{◌≡◌, ℕ, ◌≤◌, List, length, Ok, Err, Result}
use Rattle.std.proofs.Math.Option.{none, some}
use Rattle.answer.specs.Questions.{first_no}
use Rattle.file.specs.declared.refusal.Refusal.{Refusal}
use Rattle.file.specs.declared.refusal.Section.{Section}
use Rattle.file.specs.declared.tables.Counts.{Counts}
use Rattle.file.specs.Refusals.{least_count}
use Rattle.file.specs.File.{count_at, after, second, third, file_end, about_section, about_layout}

-- section s, whose count n stands at o, is all there
pub record SectionThere (s : Section) (bytes : List ℕ) (o n : ℕ) : Type 0 where
  pub value : n ≡ count_at bytes o
  pub low : least_count s ≤ n
  pub high : n ≤ 64
  pub whole : after bytes o ≤ length bytes
  pub no_no : first_no (about_section s bytes o) ≡ none

-- the section is there, or the first no to it
abbrev pub CountsSection : Section → List ℕ → ℕ → Result ℕ Refusal → Type 0
CountsSection s bytes o (Ok n) = SectionThere s bytes o n
CountsSection s bytes o (Err r) = first_no (about_section s bytes o) ≡ some r

-- the three sections are there, and nothing else
pub record LaidOut (bytes : List ℕ) (n : Counts) : Type 0 where
  pub conditions : n.conditions ≡ count_at bytes 0
  pub sequences : n.sequences ≡ count_at bytes (second bytes)
  pub formulas : n.formulas ≡ count_at bytes (third bytes)
  pub some_conditions : 1 ≤ n.conditions
  pub few_conditions : n.conditions ≤ 64
  pub few_sequences : n.sequences ≤ 64
  pub some_formulas : 1 ≤ n.formulas
  pub few_formulas : n.formulas ≤ 64
  pub whole : file_end bytes ≡ length bytes
  pub no_no : first_no (about_layout bytes) ≡ none

-- they are, or the first no to the layout
abbrev pub LaysOut : List ℕ → Result Counts Refusal → Type 0
LaysOut bytes (Ok n) = LaidOut bytes n
LaysOut bytes (Err r) = first_no (about_layout bytes) ≡ some r
