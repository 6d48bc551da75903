-- What is known of a sequence, from what is known of its parts.
use Rattle.std.proofs.Common.{◌≡◌, ℕ, zero, suc, ◌+◌, ◌*◌, ◌<◌, ◌≤◌, ◌&&◌, ◌⊎◌, refl, ap, ◌∙◌, ap₂, inl, inr, mul_comm, mul-le-mul, mul-zero, arith}
use Rattle.std.proofs.lemmas.Bool.{cases_lt}
use Rattle.psl.specs.Syntax.{truth, Condition, Sequence, condition, concat, fusion, either, both, empty, star, sequence_at}
use Rattle.psl.specs.Automaton.{states}
use Rattle.psl.specs.OptionalClock.{on}
use Rattle.psl.specs.declared.entry.Sequence as entry
use Rattle.automaton.specs.declared.node.Node.{Node}
use Rattle.automaton.specs.Nodes.{capped, Facts}

-- every clock has as many states
pub states_on : (c d : Condition) (r : Sequence) → states (on c) r ≡ states (on d) r
states_on c d (condition b) = refl
states_on c d (concat r s) = ap₂ ◌+◌ (states_on c d r) (states_on c d s)
states_on c d (fusion r s) = ap₂ ◌+◌ (states_on c d r) (states_on c d s)
states_on c d (either r s) = ap₂ ◌+◌ (states_on c d r) (states_on c d s)
states_on c d (both r s) = ap₂ ◌*◌ (states_on c d r) (states_on c d s)
states_on c d empty = refl
states_on c d (star r) = states_on c d r
states_on c d (sequence_at r e) = refl

-- a product with a factor that is too large, and another that is not 0
large : (x y a b : ℕ) → 241 ≤ x → 241 ≤ a → 1 ≤ y → 1 ≤ b → capped (x * y) ≡ capped (a * b)
large x y a b g h i j =
    let p : 241 * 1 ≤ x * y = mul-le-mul g i in
    let q : 241 * 1 ≤ a * b = mul-le-mul h j in
    omega arith

multiply : (x y a b : ℕ) → x ≡ capped a → y ≡ capped b → capped (x * y) ≡ capped (a * b)
multiply x y a b e f = go (cases_lt a 241) (cases_lt b 241)
  where
    -- one factor is too large, and the other is exact
    half : (x y a : ℕ) → 241 ≤ x → 241 ≤ a → capped (x * y) ≡ capped (a * y)
    half x zero a g h = omega (arith, mul-zero x, mul-zero a)
    half x (suc y) a g h = large x (suc y) a (suc y) g h (omega arith) (omega arith)

    go : (a < 241) ⊎ (241 ≤ a) → (b < 241) ⊎ (241 ≤ b) → capped (x * y) ≡ capped (a * b)
    go (inl g) (inl h) = let p : x ≡ a = omega arith in let q : y ≡ b = omega arith in ap₂ (λ (u v : ℕ). capped (u * v)) p q
    go (inr g) (inl h) = half x y a (omega arith) g ∙ let q : y ≡ b = omega arith in ap (λ (v : ℕ). capped (a * v)) q
    go (inl g) (inr h) =
        let p : x ≡ a = omega arith in
        ap (λ (u : ℕ). capped (u * y)) p ∙ ap capped (mul_comm a y) ∙ half y a b (omega arith) h ∙ ap capped (mul_comm b a)
    go (inr g) (inr h) = large x y a b (omega arith) (omega arith) (omega arith) (omega arith)

-- r&&s
pub both_facts : (e : entry.Sequence) (r s : Sequence) (x y : Node) → Facts r x → Facts s y → Facts (both r s) (record {
  entry = e;
  free = capped (x.free * y.free);
  clocked = capped (x.clocked * y.clocked);
  null = x.null && y.null;
  live = x.live && y.live;
})
both_facts e r s x y f g = (multiply _ _ _ _ f.0 g.0, multiply _ _ _ _ f.1 g.1, ap₂ ◌&&◌ f.2 g.2, ap₂ ◌&&◌ f.3 g.3)

-- r@d has as many states under any clock as r has under one
pub at_facts : (e : entry.Sequence) (r : Sequence) (d : Condition) (x : Node) → Facts r x → Facts (sequence_at r d) (record {
  entry = e;
  free = capped x.clocked;
  clocked = capped x.clocked;
  null = x.null;
  live = x.live;
})
at_facts e r d x f =
    let same : capped x.clocked ≡ capped (states (on d) r) = omega (arith, f.1, ap capped (states_on truth d r)) in
    (same, same, f.2, f.3)
