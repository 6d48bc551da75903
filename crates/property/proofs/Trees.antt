-- The size of a sequence entry is the size of the tree that it denotes.
use Rattle.std.proofs.Common.{◌≡◌, ℕ, List, [], ◌∷◌, ◌++◌, map, get_or, sym, refl, ap, ◌∙◌}
use mathlib.Core.List.{map-append}
use Rattle.std.proofs.Math.ListN.{get_or-map}
use Rattle.psl.specs.Syntax.{Condition, Sequence, empty}
use Rattle.psl.specs.Table.{grow, sequence_of, sequences, size}
use Rattle.psl.specs.declared.entry.Sequence as entry
use Rattle.psl.specs.declared.entry.Sequence.TheVariants as s
use Rattle.file.specs.Sizes.{sizes, size_over}

size_at : (rs : List Sequence) (a : ℕ) → get_or (map size rs) a 0 ≡ size (get_or rs a empty)
size_at rs a = get_or-map size rs a empty

size_of_entry : (cs : List Condition) (rs : List Sequence) (e : entry.Sequence) → size_over (map size rs) e ≡ size (sequence_of cs rs e)
size_of_entry cs rs (s.Condition a) = refl
size_of_entry cs rs (s.Concat a b) = simp size_at
size_of_entry cs rs (s.Fusion a b) = simp size_at
size_of_entry cs rs (s.Either a b) = simp size_at
size_of_entry cs rs (s.Both a b) = simp size_at
size_of_entry cs rs s.Empty = refl
size_of_entry cs rs (s.Star a) = size_at rs a
size_of_entry cs rs (s.At a b) = size_at rs a

sizes_grown : (cs : List Condition) (rs : List Sequence) (es : List entry.Sequence) → grow size_over (map size rs) es ≡ map size (grow (sequence_of cs) rs es)
sizes_grown cs rs [] = refl
sizes_grown cs rs (e ∷ es) =
    ap (λ z. grow size_over (map size rs ++ (z ∷ [])) es) (size_of_entry cs rs e)
    ∙ ap (λ zs. grow size_over zs es) (sym (map-append size rs (sequence_of cs rs e ∷ [])))
    ∙ sizes_grown cs (rs ++ (sequence_of cs rs e ∷ [])) es

-- the sizes of a table are those of its trees
pub sizes_of_trees : (cs : List Condition) (es : List entry.Sequence) → sizes es ≡ map size (sequences cs es)
unfolding sizes sequences
sizes_of_trees cs es = sizes_grown cs [] es
