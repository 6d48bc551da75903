-- Words: places, suffixes, prefixes, mirrors; the ticks of a clock.
use Rattle.std.specs.Prelude.{ℕ, zero, suc, T, List, [], ◌∷◌, map}
use Rattle.std.proofs.Math.Option.{Option, none, some}
use Rattle.psl.specs.Syntax.{Condition, negation}
use Rattle.psl.specs.Letter.{Letter, top, bottom, mirror, satisfies}

-- what follows a word's listed letters: nothing, endless tops, or endless bottoms
pub data Tail : Type 0 where
  end tops bottoms : Tail

-- a finite list of letters, and what follows it
pub record Word : Type 0 where
  pub letters : List Letter
  pub tail : Tail

-- the letters v, followed by the tail t
abbrev pub with_tail : List Letter → Tail → Word
with_tail v t = record { letters = v; tail = t }

-- the letters v, followed by endless tops
abbrev pub with_tops : List Letter → Word
with_tops v = with_tail v tops

-- the mirror of a tail
abbrev pub mirror_tail : Tail → Tail
mirror_tail end = end
mirror_tail tops = bottoms
mirror_tail bottoms = tops

-- mir(w): every letter mirrored
abbrev pub mir : Word → Word
mir w = with_tail (map mirror w.letters) (mirror_tail w.tail)

-- the first letter, if there is one
abbrev pub head : List Letter → Tail → Option Letter
head [] end = none
head [] tops = some top
head [] bottoms = some bottom
head (l ∷ v) t = some l

-- a list without its first letter
abbrev pub behead : List Letter → List Letter
behead [] = []
behead (l ∷ v) = v

-- a word without its first letter
abbrev pub rest : Word → Word
rest w = with_tail (behead w.letters) w.tail

-- the letter at place i, if i is a place of the word
abbrev pub seen : Word → ℕ → Option Letter
seen w zero = head w.letters w.tail
seen w (suc i) = seen (rest w) i

-- there is a letter
abbrev pub Present : Option Letter → Type 0
Present none = ⊥
Present (some l) = Unit {0}

-- i is a place of the word
abbrev pub Place : Word → ℕ → Type 0
Place w i = Present (seen w i)

-- there is a letter, and it satisfies b
abbrev pub Holds : Option Letter → Condition → Type 0
Holds none b = ⊥
Holds (some l) b = T (satisfies l b)

-- w[i..]
abbrev pub from : Word → ℕ → Word
from w zero = w
from w (suc i) = from (rest w) i

-- the letter that stands there, or bottom
abbrev pub or_bottom : Option Letter → Letter
or_bottom none = bottom
or_bottom (some l) = l

-- the first n letters of w, so that w[0..j] is front w (suc j); past a finite end bottoms stand in, which nothing matches
abbrev pub front : Word → ℕ → List Letter
front w zero = []
front w (suc n) = or_bottom (seen w zero) ∷ front (rest w) n

-- a tick of c: a non-empty list whose last letter satisfies c and whose earlier letters all satisfy "not c"
abbrev pub Tick : Condition → List Letter → Type 0
Tick c [] = ⊥
Tick c (l ∷ []) = T (satisfies l c)
Tick c (l ∷ (m ∷ v)) = T (satisfies l (negation c)) × Tick c (m ∷ v)

-- a non-empty list whose last letter satisfies b
abbrev pub Ends : Condition → List Letter → Type 0
Ends b [] = ⊥
Ends b (l ∷ []) = T (satisfies l b)
Ends b (l ∷ (m ∷ v)) = Ends b (m ∷ v)
