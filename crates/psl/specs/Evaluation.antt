-- The meaning over an optional clock as a Boolean program over the letters and the tail; proved to be the meaning, so no reader need believe it.
use Rattle.std.specs.Prelude.{ℕ, zero, suc, Bool, true, false, cond as if, not, ◌&&◌, ◌||◌, List, [], ◌∷◌, map, length, take, drop}
use Rattle.psl.specs.Syntax.{Condition, Sequence, Formula, strong, weak, strong_sequence, weak_sequence, negated, conjoined, next, until, abort}
use Rattle.psl.specs.Syntax.{implies, formula_at}
use Rattle.psl.specs.Letter.{Letter, mirror, satisfies}
use Rattle.psl.specs.Word.{Tail, end, tops, bottoms, mirror_tail, behead}
use Rattle.psl.specs.Automaton.{accepts, extends}
use Rattle.psl.specs.OptionalClock.{Clock, free, on, ticks}

-- the tail is endless tops
abbrev pub is_tops : Tail → Bool
is_tops end = false
is_tops tops = true
is_tops bottoms = false

-- the tail is a finite end
abbrev pub is_end : Tail → Bool
is_end end = true
is_end tops = false
is_end bottoms = false

-- there is no letter
abbrev pub is_nil : List Letter → Bool
is_nil [] = true
is_nil (l ∷ v) = false

-- there is a first letter, and it satisfies b
abbrev pub first : Condition → Tail → List Letter → Bool
first b t [] = is_tops t
first b t (l ∷ v) = satisfies l b

-- the letters before the first that satisfies b
abbrev pub cut : Condition → List Letter → List Letter
cut b [] = []
cut b (l ∷ v) = if (satisfies l b) [] (l ∷ cut b v)

-- the tail behind the letters before the first that satisfies b
abbrev pub cut_tail : Condition → List Letter → Tail → Tail
cut_tail b [] t = t
cut_tail b (l ∷ v) t = if (satisfies l b) tops (cut_tail b v t)

-- no word
abbrev pub nowhere : List Letter → Bool
nowhere v = false

-- some number below n has the property
abbrev pub some_below : ℕ → (ℕ → Bool) → Bool
some_below zero P = false
some_below (suc n) P = some_below n P || P n

-- the tail's letter, if it has one, is a tick
abbrev pub tail_ticks : Clock → Tail → Bool
tail_ticks free t = not (is_end t)
tail_ticks (on c) t = is_tops t

-- from the last letter back: G at a tick, with F at each tick before
abbrev pub scan : Clock → (List Letter → Bool) → (List Letter → Bool) → Tail → List Letter → Bool
scan k F G t [] = tail_ticks k t && G []
scan k F G t (l ∷ v) = (ticks k l && G (l ∷ v)) || ((not (ticks k (mirror l)) || F (l ∷ v)) && scan k F G t v)

-- some letters up to a place j with P match, or all of them and then one or more tops
abbrev pub reach : Clock → Sequence → (ℕ → Bool) → Bool → List Letter → Bool
reach k r P beyond v = some_below (length v) (λ j. accepts k r (take (suc j) v) && P j) || (beyond && extends k r v)

-- whether the letters v with the tail t satisfy a formula
abbrev pub eval : Clock → Formula → Tail → List Letter → Bool
eval k (strong b) t v = scan k nowhere (first b t) t v
eval k (weak b) t v = not (scan k nowhere (λ u. not (first b t (map mirror u))) (mirror_tail t) (map mirror v))
eval k (strong_sequence r) t v = reach k r (λ j. true) (is_tops t) v
eval k (weak_sequence r) t v = (is_nil v && is_end t) || reach k r (λ j. true) (is_tops t || is_end t) v
eval k (negated f) t v = not (eval k f (mirror_tail t) (map mirror v))
eval k (conjoined f g) t v = eval k f t v && eval k g t v
eval k (next f) t v = scan k nowhere (λ u. scan k nowhere (eval k f t) t (behead u)) t v
eval k (until f g) t v = scan k (eval k f t) (eval k g t) t v
eval k (abort f b) t v = eval k f (cut_tail b v t) (cut b v)
eval k (implies r f) t v =
    not (reach k r (λ j. not (eval k f t (drop j v))) (is_tops (mirror_tail t) && not (eval k f t [])) (map mirror v))
eval k (formula_at f d) t v = eval (on d) f t v
