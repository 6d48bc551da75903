-- Mirrors of letters and words.
use Rattle.std.proofs.Common.{◌≡◌, ℕ, zero, suc, Bool, true, false, not, T, ◌⊎◌, List, [], ◌∷◌, map, sym, refl, ap, ◌∙◌, ap₂, inl, inr, T_not}
use mathlib.Core.Option
use mathlib.Core.Option.{Option, none, some}
use Rattle.psl.specs.Syntax.{Condition, negation}
use Rattle.psl.specs.Letter.{Letter, top, bottom, ordinary, mirror, satisfies}
use Rattle.psl.specs.Word.{Tail, end, tops, bottoms, Word, with_tail, mirror_tail, mir, rest, seen, Present, Holds, from}
use Rattle.psl.proofs.Places.{first_of, rest_mir}

-- letters
pub satisfies_negation : (l : Letter) (c : Condition) → satisfies l (negation c) ≡ not (satisfies (mirror l) c)
satisfies_negation top c = refl
satisfies_negation bottom c = refl
satisfies_negation (ordinary own other) c = refl

pub mirror_twice : (l : Letter) → mirror (mirror l) ≡ l
mirror_twice top = refl
mirror_twice bottom = refl
mirror_twice (ordinary own other) = refl

pub tail_twice : (t : Tail) → mirror_tail (mirror_tail t) ≡ t
tail_twice end = refl
tail_twice tops = refl
tail_twice bottoms = refl

map_twice : (v : List Letter) → map mirror (map mirror v) ≡ v
map_twice [] = refl
map_twice (l ∷ v) = ap₂ (λ (m : Letter) (u : List Letter). m ∷ u) (mirror_twice l) (map_twice v)

pub mir_twice : (w : Word) → mir (mir w) ≡ w
mir_twice w = ap₂ with_tail (map_twice w.letters) (tail_twice w.tail)

pub from_mir : (k : ℕ) (w : Word) → from (mir w) k ≡ mir (from w k)
from_mir zero w = refl
from_mir (suc k) w = rw (rest_mir w) (from_mir k (rest w))

-- negation and the mirror
pub not_both : (x : Option Letter) (b : Condition) → Holds x b → Holds (Option.map mirror x) (negation b) → ⊥
not_both none b h k = h
not_both (some top) b h k = k
not_both (some bottom) b h k = h
not_both (some (ordinary x y)) b h k = T_not (satisfies (ordinary x y) b) k h

pub one_of : (x : Option Letter) (b : Condition) → Present x → Holds x b ⊎ Holds (Option.map mirror x) (negation b)
one_of none b p = absurd p
one_of (some top) b p = inl tt
one_of (some bottom) b p = inr tt
one_of (some (ordinary x y)) b p = go (satisfies (ordinary x y) b)
  where
    go : (a : Bool) → T a ⊎ T (not a)
    go true = inl tt
    go false = inr tt

-- the first letter of the mirrored suffix
pub seen_mir_from : (j : ℕ) (w : Word) → seen (mir (from w j)) zero ≡ seen (mir w) j
seen_mir_from j w = ap (λ x. seen x zero) (sym (from_mir j w)) ∙ first_of j (mir w)
