-- The sizes beside the sequences of a table.
use Rattle.std.proofs.Common.{◌≡◌, ℕ, zero, suc, ◌≤◌, List, [], ◌∷◌, ◌++◌, length, get_or, take, Some, sym, ap, ◌∙◌, arith}
use Rattle.std.specs.List.{slice_get}
use Rattle.std.proofs.lemmas.Option.{unwrap_or-slice_get}
use Rattle.psl.specs.declared.entry.Sequence.{Sequence}
use Rattle.psl.proofs.Grow.{grow_push, length_grow, grow_nth}
use Rattle.table.specs.Rows.{rows_of}
use Rattle.file.specs.declared.sequences.Sequences.{Sequences}
use Rattle.file.specs.Sizes.{sizes, size_over}

sizes_push : (es : List Sequence) (e : Sequence) → sizes (es ++ (e ∷ [])) ≡ sizes es ++ (size_over (sizes es) e ∷ [])
unfolding sizes
sizes_push es e = grow_push size_over [] es e

-- one more size beside one more sequence
pub sizes_more : (es : List Sequence) (zs : List ℕ) (e : Sequence) (z : ℕ)
    → zs ≡ sizes es → z ≡ size_over zs e → zs ++ (z ∷ []) ≡ sizes (es ++ (e ∷ []))
sizes_more es zs e z same is = ap (λ y. zs ++ (y ∷ [])) is ∙ ap (λ ys. ys ++ (size_over ys e ∷ [])) same ∙ sym (sizes_push es e)

-- one more size that is at most 240
pub small_more : (zs : List ℕ) (z : ℕ) → z ≤ 240 → ((k : ℕ) → get_or zs k 0 ≤ 240) → (k : ℕ) → get_or (zs ++ (z ∷ [])) k 0 ≤ 240
small_more [] z small below zero = small
small_more [] z small below (suc k) = omega arith
small_more (y ∷ ys) z small below zero = below 0
small_more (y ∷ ys) z small below (suc k) = small_more ys z small (λ i. below (suc i)) k

pub length_sizes : (es : List Sequence) → length (sizes es) ≡ length es
unfolding sizes
length_sizes es = length_grow size_over [] es ∙ omega arith

pub as_many_sizes : (t : Sequences) → length (rows_of t.sizes) ≡ length (rows_of t.entries)
as_many_sizes t = ap length t.measured ∙ length_sizes (rows_of t.entries)

-- the size that stands at a place is that of the sequence there
pub sizes_nth : (es : List Sequence) (i z : ℕ) → slice_get (sizes es) i ≡ Some z
    → (e : Sequence) × (slice_get es i ≡ Some e) × (z ≡ size_over (sizes (take i es)) e)
unfolding sizes
sizes_nth es i z is =
    let (e, found, measured) = grow_nth size_over es i z is in
    (e, found, measured)

-- reading a size, or 0
pub ruleset reads = (unwrap_or-slice_get)

-- one more sequence with its size
pub ruleset more = (as_many_sizes, sizes_more, small_more)
