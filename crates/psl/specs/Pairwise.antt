-- Two lists, letter by letter.
use Rattle.std.specs.Prelude.{List, [], ◌∷◌}
use Rattle.psl.specs.Letter.{Letter}

-- the lists are equally long, and their letters are in the relation R, place by place
abbrev pub Pairwise : (Letter → Letter → Type 0) → List Letter → List Letter → Type 0
Pairwise R [] [] = Unit {0}
Pairwise R [] (m ∷ v) = ⊥
Pairwise R (l ∷ u) [] = ⊥
Pairwise R (l ∷ u) (m ∷ v) = R l m × Pairwise R u v
