-- Clock removal: the clock in force is written into the tree, from the outside in.
use Rattle.psl.specs.Syntax.{Condition, negation, conjunction}
use Rattle.psl.specs.Syntax.{Sequence, condition, concat, fusion, either, both, empty, star, sequence_at}
use Rattle.psl.specs.Syntax.{Formula, strong, weak, strong_sequence, weak_sequence, negated, conjoined, next, until, abort, implies, formula_at}

-- a sequence with the clock c written into it: b becomes {not c}[*];{c and b}
abbrev pub unclock_sequence : Condition → Sequence → Sequence
unclock_sequence c (condition b) = concat (star (condition (negation c))) (condition (conjunction c b))
unclock_sequence c (concat r s) = concat (unclock_sequence c r) (unclock_sequence c s)
unclock_sequence c (fusion r s) = fusion (unclock_sequence c r) (unclock_sequence c s)
unclock_sequence c (either r s) = either (unclock_sequence c r) (unclock_sequence c s)
unclock_sequence c (both r s) = both (unclock_sequence c r) (unclock_sequence c s)
unclock_sequence c empty = empty
unclock_sequence c (star r) = star (unclock_sequence c r)
unclock_sequence c (sequence_at r d) = unclock_sequence d r

-- (not c)! U g: g at the first tick of c, where g itself asks for c
abbrev pub after_waiting : Condition → Formula → Formula
after_waiting c g = until (strong (negation c)) g

-- a formula with the clock c written into it
abbrev pub unclock : Condition → Formula → Formula
unclock c (strong b) = after_waiting c (strong (conjunction c b))
unclock c (weak b) = negated (after_waiting c (strong (conjunction c (negation b))))
unclock c (strong_sequence r) = strong_sequence (unclock_sequence c r)
unclock c (weak_sequence r) = weak_sequence (unclock_sequence c r)
unclock c (negated f) = negated (unclock c f)
unclock c (conjoined f g) = conjoined (unclock c f) (unclock c g)
unclock c (next f) = after_waiting c (conjoined (strong c) (next (after_waiting c (conjoined (strong c) (unclock c f)))))
unclock c (until f g) = until (negated (conjoined (strong c) (negated (unclock c f)))) (conjoined (strong c) (unclock c g))
unclock c (abort f b) = abort (unclock c f) b
unclock c (implies r f) = implies (unclock_sequence c r) (unclock c f)
unclock c (formula_at f d) = unclock d f
