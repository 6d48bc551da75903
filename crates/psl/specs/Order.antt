-- The order of words: letters raised.
use Rattle.std.proofs.Math.Option.{Option, some}
use Rattle.std.specs.Prelude.{ℕ, zero}
use Rattle.psl.specs.Letter.{Letter, top, bottom}
use Rattle.psl.specs.Word.{Tail, end, tops, bottoms, Word, with_tail, seen, Place}

-- what may stand at a place, raised: bottom is below all, all is below top, and a missing letter lies between
pub data Below : Option Letter → Option Letter → Type 0 where
  low : {x : Option Letter} → Below (some bottom) x
  high : {x : Option Letter} → Below x (some top)
  same : {x : Option Letter} → Below x x

infix 40 ◌⊑◌
-- w' is w with letters raised, place by place
abbrev pub ◌⊑◌ : Word → Word → Type 0
◌⊑◌ w w' = (i : ℕ) → Below (seen w i) (seen w' i)

-- the word has a letter
abbrev pub Nonempty : Word → Type 0
Nonempty w = Place w zero

-- a finite end made endless by tops
abbrev pub topped_tail : Tail → Tail
topped_tail end = tops
topped_tail tops = tops
topped_tail bottoms = bottoms

-- the word with endless tops after its end, if it has one
abbrev pub topped : Word → Word
topped w = with_tail w.letters (topped_tail w.tail)
