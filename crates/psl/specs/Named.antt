-- Conditions by name: trees whose conditions are names, filled in with the conditions that the names stand for.
use Rattle.std.specs.Prelude.{◌≡◌, ℕ, List}
use Rattle.psl.specs.Syntax.{Condition, truth, falsity, atom, negation, conjunction, Sequence, condition, concat, fusion, either, both, empty}
use Rattle.psl.specs.Syntax.{star, sequence_at, Formula, strong, weak, strong_sequence, weak_sequence, negated, conjoined, next, until, abort}
use Rattle.psl.specs.Syntax.{implies, formula_at}
use Rattle.psl.specs.Letter.{Letter, mirror, satisfies}
use Rattle.psl.specs.OptionalClock.{Clock, free, on}
use Rattle.psl.specs.Pairwise.{Pairwise}

-- a name n becomes the condition f n; other conditions do not occur, and become f 0
abbrev pub filled : (ℕ → Condition) → Condition → Condition
filled f truth = f 0
filled f falsity = f 0
filled f (atom n) = f n
filled f (negation b) = f 0
filled f (conjunction b c) = f 0

-- a sequence filled in
abbrev pub filled_sequence : (ℕ → Condition) → Sequence → Sequence
filled_sequence f (condition b) = condition (filled f b)
filled_sequence f (concat r s) = concat (filled_sequence f r) (filled_sequence f s)
filled_sequence f (fusion r s) = fusion (filled_sequence f r) (filled_sequence f s)
filled_sequence f (either r s) = either (filled_sequence f r) (filled_sequence f s)
filled_sequence f (both r s) = both (filled_sequence f r) (filled_sequence f s)
filled_sequence f empty = empty
filled_sequence f (star r) = star (filled_sequence f r)
filled_sequence f (sequence_at r d) = sequence_at (filled_sequence f r) (filled f d)

-- a formula filled in
abbrev pub filled_formula : (ℕ → Condition) → Formula → Formula
filled_formula f (strong b) = strong (filled f b)
filled_formula f (weak b) = weak (filled f b)
filled_formula f (strong_sequence r) = strong_sequence (filled_sequence f r)
filled_formula f (weak_sequence r) = weak_sequence (filled_sequence f r)
filled_formula f (negated x) = negated (filled_formula f x)
filled_formula f (conjoined x y) = conjoined (filled_formula f x) (filled_formula f y)
filled_formula f (next x) = next (filled_formula f x)
filled_formula f (until x y) = until (filled_formula f x) (filled_formula f y)
filled_formula f (abort x b) = abort (filled_formula f x) (filled f b)
filled_formula f (implies r x) = implies (filled_sequence f r) (filled_formula f x)
filled_formula f (formula_at x d) = formula_at (filled_formula f x) (filled f d)

-- an optional clock filled in
abbrev pub filled_clock : (ℕ → Condition) → Clock → Clock
filled_clock f free = free
filled_clock f (on c) = on (filled f c)

-- the letters l and m satisfy the same conditions by name, l those of f and m those of g, and so do their mirrors
abbrev pub Like : (ℕ → Condition) → (ℕ → Condition) → Letter → Letter → Type 0
Like f g l m = (n : ℕ) → (satisfies l (f n) ≡ satisfies m (g n)) × (satisfies (mirror l) (f n) ≡ satisfies (mirror m) (g n))

-- the same of two lists, letter by letter
abbrev pub Likes : (ℕ → Condition) → (ℕ → Condition) → List Letter → List Letter → Type 0
Likes f g u v = Pairwise (Like f g) u v
