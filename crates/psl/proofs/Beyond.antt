-- Words past their letters.
use Rattle.std.proofs.Common.{◌≡◌, ℕ, zero, suc, ◌+◌, ◌<◌, ◌≤◌, List, [], ◌∷◌, ◌++◌, length, take, drop, sym, refl, ap, ◌∙◌, le_of_suc-le-suc, arith}
use Rattle.psl.specs.Letter.{Letter, top}
use Rattle.psl.specs.Word.{Tail, end, tops, bottoms, with_tail, head, seen, Present, Place, from, or_bottom, front}
use Rattle.psl.specs.Automaton.{run_of_tops}
use Rattle.psl.proofs.Places.{first_of}

-- the bare tail
pub seen_bare : (t : Tail) (k : ℕ) → seen (with_tail [] t) k ≡ head [] t
seen_bare t zero = refl
seen_bare t (suc k) = seen_bare t k

pub from_bare : (t : Tail) (k : ℕ) → from (with_tail [] t) k ≡ with_tail [] t
from_bare t zero = refl
from_bare t (suc k) = from_bare t k

-- prefixes and suffixes
pub front_take : (v : List Letter) (t : Tail) (j : ℕ) → j ≤ length v → front (with_tail v t) j ≡ take j v
front_take v t zero h = refl
front_take [] t (suc j) h = absurd (omega arith)
front_take (l ∷ v) t (suc j) h = ap (λ (u : List Letter). l ∷ u) (front_take v t j (le_of_suc-le-suc h))

pub from_drop : (v : List Letter) (t : Tail) (j : ℕ) → from (with_tail v t) j ≡ with_tail (drop j v) t
from_drop v t zero = refl
from_drop [] t (suc j) = from_bare t j
from_drop (l ∷ v) t (suc j) = from_drop v t j

drop_all : (v : List Letter) (j : ℕ) → length v ≤ j → drop j v ≡ []
drop_all [] zero h = refl
drop_all [] (suc j) h = refl
drop_all (l ∷ v) zero h = absurd (omega arith)
drop_all (l ∷ v) (suc j) h = drop_all v j (le_of_suc-le-suc h)

pub from_past : (v : List Letter) (t : Tail) (j : ℕ) → length v ≤ j → from (with_tail v t) j ≡ with_tail [] t
from_past v t j h = from_drop v t j ∙ ap (λ (u : List Letter). with_tail u t) (drop_all v j h)

pub seen_past : (v : List Letter) (t : Tail) (j : ℕ) → length v ≤ j → seen (with_tail v t) j ≡ head [] t
seen_past v t j h = sym (first_of j (with_tail v t)) ∙ ap (λ x. seen x zero) (from_past v t j h)

pub place_in : (v : List Letter) (t : Tail) (j : ℕ) → j < length v → Place (with_tail v t) j
place_in [] t j h = absurd (omega arith)
place_in (l ∷ v) t zero h = tt
place_in (l ∷ v) t (suc j) h = place_in v t j (le_of_suc-le-suc h)

pub place_tops : (v : List Letter) (j : ℕ) → Place (with_tail v tops) j
place_tops [] zero = tt
place_tops [] (suc j) = place_tops [] j
place_tops (l ∷ v) zero = tt
place_tops (l ∷ v) (suc j) = place_tops v j

pub no_place_past : (v : List Letter) (j : ℕ) → length v ≤ j → Place (with_tail v end) j → ⊥
no_place_past [] zero h p = p
no_place_past [] (suc j) h p = no_place_past [] j (omega arith) p
no_place_past (l ∷ v) zero h p = absurd (omega arith)
no_place_past (l ∷ v) (suc j) h p = no_place_past v j (le_of_suc-le-suc h) p

front_bare : (n : ℕ) → front (with_tail [] tops) n ≡ run_of_tops n
front_bare zero = refl
front_bare (suc n) = ap (λ (u : List Letter). top ∷ u) (front_bare n)

pub front_tops : (v : List Letter) (m : ℕ) → front (with_tail v tops) (length v + m) ≡ v ++ run_of_tops m
front_tops [] m = ap (front (with_tail [] tops)) (let e : 0 + m ≡ m = omega arith in e) ∙ front_bare m
front_tops (l ∷ v) m =
    ap (front (with_tail (l ∷ v) tops)) (let e : suc (length v) + m ≡ suc (length v + m) = omega arith in e) ∙ ap (λ (u : List Letter). l ∷ u) (front_tops v m)

pub front_all : (v : List Letter) (t : Tail) → front (with_tail v t) (length v) ≡ v
front_all [] t = refl
front_all (l ∷ v) t = ap (λ u. l ∷ u) (front_all v t)

pub front_past : (v : List Letter) (t : Tail) → front (with_tail v t) (suc (length v)) ≡ v ++ (or_bottom (head [] t) ∷ [])
front_past [] t = refl
front_past (l ∷ v) t = ap (λ u. l ∷ u) (front_past v t)

pub place_past : (v : List Letter) (t : Tail) → Present (head [] t) → Place (with_tail v t) (length v)
place_past [] t p = p
place_past (l ∷ v) t p = place_past v t p

pub place_last : (l : Letter) (v : List Letter) (t : Tail) → Place (with_tail (l ∷ v) t) (length v)
place_last l [] t = tt
place_last l (m ∷ v) t = place_last m v t

pub place_bottoms : (v : List Letter) (j : ℕ) → Place (with_tail v bottoms) j
place_bottoms [] zero = tt
place_bottoms [] (suc j) = place_bottoms [] j
place_bottoms (l ∷ v) zero = tt
place_bottoms (l ∷ v) (suc j) = place_bottoms v j
