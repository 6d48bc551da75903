-- Places, suffixes, prefixes and mirrors of words.
use Rattle.std.proofs.Common.{◌≡◌, ℕ, zero, suc, ◌+◌, ◌<◌, ◌≤◌, List, [], ◌∷◌, map, length, get_or, sym, refl, ap, subst, ap₂, le_of_suc-le-suc, not-suc-le-zero, suc-add, zero-add, arith}
use mathlib.Core.Option
use mathlib.Core.Option.{Option, none, some}
use Rattle.psl.specs.Syntax.{Condition}
use Rattle.psl.specs.Letter.{Letter, bottom, mirror, satisfies}
use Rattle.psl.specs.Word.{Tail, end, tops, bottoms, Word, with_tail, mirror_tail, mir, head, behead, rest, seen, Present, Place, Holds, from, or_bottom, front}
use Rattle.psl.proofs.Refuted.{no_place}
use Rattle.psl.proofs.Tests.{dec_T}

-- a letter that satisfies something is there
pub holds_present : (x : Option Letter) (b : Condition) → Holds x b → Present x
holds_present none b h = h
holds_present (some l) b h = tt

present_some : (x : Option Letter) → Present x → x ≡ some (or_bottom x)
present_some none p = absurd p
present_some (some l) p = refl

pub place? : (x : Option Letter) → Dec (Present x)
place? none = no (λ p. p)
place? (some l) = yes tt

pub holds? : (x : Option Letter) (b : Condition) → Dec (Holds x b)
holds? none b = no (λ h. h)
holds? (some l) b = dec_T (satisfies l b)

-- places run from 0 without a gap
first_place : (j : ℕ) (v : List Letter) (t : Tail) → Place (with_tail v t) j → Place (with_tail v t) zero
first_place zero v t p = p
first_place (suc j) [] end p = absurd (no_place j p)
first_place (suc j) [] tops p = tt
first_place (suc j) [] bottoms p = tt
first_place (suc j) (l ∷ v) t p = tt

pub place_below : (i j : ℕ) (w : Word) → i ≤ j → Place w j → Place w i
place_below zero j w h p = first_place j w.letters w.tail p
place_below (suc i) zero w h p = absurd (not-suc-le-zero h)
place_below (suc i) (suc j) w h p = place_below i j (rest w) (le_of_suc-le-suc h) p

pub place_first : (j : ℕ) (w : Word) → Place w j → Place w zero
place_first j w p = place_below zero j w (omega arith) p

-- suffixes
pub first_of : (i : ℕ) (w : Word) → seen (from w i) zero ≡ seen w i
first_of zero w = refl
first_of (suc i) w = first_of i (rest w)

pub rest_from : (w : Word) (j : ℕ) → from w (suc j) ≡ rest (from w j)
rest_from w zero = refl
rest_from w (suc j) = rest_from (rest w) j

pub from_from : (i j : ℕ) (w : Word) → from (from w i) j ≡ from w (i + j)
from_from zero j w = rw (zero-add j)
from_from (suc i) j w = rw (suc-add i j) (from_from i j (rest w))

pub seen_from : (w : Word) (i m : ℕ) → seen (from w i) m ≡ seen w (i + m)
seen_from w zero m = rw (zero-add m)
seen_from w (suc i) m = rw (suc-add i m) (seen_from (rest w) i m)

-- prefixes
pub length_front : (n : ℕ) (w : Word) → length (front w n) ≡ n
length_front zero w = refl
length_front (suc n) w = ap suc (length_front n (rest w))

pub front_at : (n m : ℕ) (w : Word) → m < n → Place w m → seen w m ≡ some (get_or (front w n) m bottom)
front_at zero m w h p = absurd (not-suc-le-zero h)
front_at (suc n) zero w h p = present_some (seen w zero) p
front_at (suc n) (suc m) w h p = front_at n m (rest w) (le_of_suc-le-suc h) p

-- a list of n letters, each the one that the word has there, is the prefix
pub front_only : (n : ℕ) (w : Word) (v : List Letter) → length v ≡ n → ((m : ℕ) → m < n → seen w m ≡ some (get_or v m bottom)) → v ≡ front w n
front_only zero w [] e h = refl
front_only zero w (l ∷ v) e h = let z : ⊥ = omega arith in absurd z
front_only (suc n) w [] e h = let z : ⊥ = omega arith in absurd z
front_only (suc n) w (l ∷ v) e h =
    ap₂ ◌∷◌ (sym (ap or_bottom (h zero (omega arith)))) (front_only n (rest w) v (omega arith) (λ m i. h (suc m) (omega arith)))

-- mirrors
head_mir : (v : List Letter) (t : Tail) → head (map mirror v) (mirror_tail t) ≡ Option.map mirror (head v t)
head_mir [] end = refl
head_mir [] tops = refl
head_mir [] bottoms = refl
head_mir (l ∷ v) t = refl

behead_mir : (v : List Letter) → behead (map mirror v) ≡ map mirror (behead v)
behead_mir [] = refl
behead_mir (l ∷ v) = refl

pub rest_mir : (w : Word) → rest (mir w) ≡ mir (rest w)
rest_mir w = ap (λ v. with_tail v (mirror_tail w.tail)) (behead_mir w.letters)

pub seen_mir : (w : Word) (i : ℕ) → seen (mir w) i ≡ Option.map mirror (seen w i)
seen_mir w zero = head_mir w.letters w.tail
seen_mir w (suc i) = rw (rest_mir w) (seen_mir (rest w) i)

-- a word and its mirror have the same places
present_mirror : (x : Option Letter) → Present (Option.map mirror x) → Present x
present_mirror none p = p
present_mirror (some l) p = tt

mirror_present : (x : Option Letter) → Present x → Present (Option.map mirror x)
mirror_present none p = p
mirror_present (some l) p = tt

pub place_of_mir : (w : Word) (i : ℕ) → Place (mir w) i → Place w i
place_of_mir w i p = present_mirror (seen w i) (subst Present (seen_mir w i) p)

pub place_in_mir : (w : Word) (i : ℕ) → Place w i → Place (mir w) i
place_in_mir w i p = subst Present (sym (seen_mir w i)) (mirror_present (seen w i) p)
