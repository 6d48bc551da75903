-- The automaton of a condition is right.
use Rattle.std.proofs.Common.{◌≡◌, Bool, ◌&&◌, T, ◌⊎◌, ◌↔◌, List, [], ◌∷◌, sym, refl, inl, inr}
use Rattle.psl.specs.Syntax.{Condition}
use Rattle.psl.specs.Letter.{Letter, satisfies}
use Rattle.psl.specs.Word.{Ends}
use Rattle.psl.specs.Automaton.{Leaf, waiting, over, LeafState, leaf_final, leaf_last, leaf_init, leaf_step, leaf_any}
use Rattle.psl.specs.OptionalClock.{Clock, free, on, ticks, TickUnder}
use Rattle.psl.proofs.Derive.{Derives}
use Rattle.psl.proofs.Languages.{Lang, nil_cons}
use Rattle.psl.proofs.Tests.{and_in, and_out, or_left, or_right, or_out}

-- the lists that complete a match of a condition from a state
abbrev pub leaf_rest : (k : Clock) → Condition → LeafState k → Lang
leaf_rest free b p v = v ≡ []
leaf_rest (on c) b waiting v = TickUnder (on c) v × Ends b v
leaf_rest (on c) b over v = v ≡ []

abbrev Leaves : Clock → Condition → Lang
Leaves k b v = TickUnder k v × Ends b v

pub leaf_derives : (k : Clock) (b : Condition) (l : Letter) → Derives (Leaves k b) l (leaf_init k b l) (leaf_rest k b)
leaf_derives free b l v = (there v, λ t. back v t.1 t.2)
  where
    there : (v : List Letter) → Leaves free b (l ∷ v) → (q : Unit {0}) × T (satisfies l b) × (v ≡ [])
    there [] x = (tt, x.1, refl)
    there (m ∷ v) x = absurd x.0.0

    back : (v : List Letter) → T (satisfies l b) → v ≡ [] → Leaves free b (l ∷ v)
    back [] x e = (tt, x)
    back (m ∷ v) x e = nil_cons (sym e)
leaf_derives (on c) b l v = (there v, λ t. back t.0 v t.1 t.2)
  where
    there : (v : List Letter) → Leaves (on c) b (l ∷ v) → (q : Leaf) × T (leaf_init (on c) b l q) × leaf_rest (on c) b q v
    there [] x = (over, and_in (satisfies l c) (satisfies l b) x.0 x.1, refl)
    there (m ∷ v) x = (waiting, x.0.0, (x.0.1, x.1))

    back : (q : Leaf) (v : List Letter) → T (leaf_init (on c) b l q) → leaf_rest (on c) b q v → Leaves (on c) b (l ∷ v)
    back waiting [] x y = absurd y.0
    back waiting (m ∷ v) x y = ((x, y.0), y.1)
    back over [] x y = and_out (satisfies l c) (satisfies l b) x
    back over (m ∷ v) x y = nil_cons (sym y)

pub leaf_null_right : (k : Clock) (b : Condition) → Leaves k b [] → ⊥
leaf_null_right k b x = x.0

pub leaf_final_right : (k : Clock) (b : Condition) (p : LeafState k) → leaf_rest k b p [] ↔ T (leaf_final k p)
leaf_final_right free b p = (λ t. tt, λ t. refl)
leaf_final_right (on c) b waiting = (λ t. t.0, λ t. absurd t)
leaf_final_right (on c) b over = (λ t. tt, λ t. refl)

pub leaf_single_right : (k : Clock) (b : Condition) (l : Letter) → Leaves k b (l ∷ []) ↔ T (ticks k l && satisfies l b)
leaf_single_right k b l = (λ t. and_in (ticks k l) (satisfies l b) t.0 t.1, λ t. and_out (ticks k l) (satisfies l b) t)

pub leaf_last_right : (k : Clock) (b : Condition) (l : Letter) (p : LeafState k) → leaf_rest k b p (l ∷ []) ↔ T (leaf_last k b l p)
leaf_last_right free b l p = (λ e. nil_cons (sym e), λ t. absurd t)
leaf_last_right (on c) b l waiting = leaf_single_right (on c) b l
leaf_last_right (on c) b l over = (λ e. nil_cons (sym e), λ t. absurd t)

pub leaf_moves : (k : Clock) (b : Condition) (l : Letter) (p : LeafState k) → Derives (leaf_rest k b p) l (leaf_step k b l p) (leaf_rest k b)
leaf_moves free b l p = λ v. (λ e. nil_cons (sym e), λ t. absurd t.1)
leaf_moves (on c) b l waiting = leaf_derives (on c) b l
leaf_moves (on c) b l over = λ v. (λ e. nil_cons (sym e), λ t. absurd t.1)

pub leaf_any_in : (k : Clock) (P : LeafState k → Bool) (p : LeafState k) → T (P p) → T (leaf_any k P)
leaf_any_in free P p x = x
leaf_any_in (on c) P waiting x = or_left (P waiting) (P over) x
leaf_any_in (on c) P over x = or_right (P waiting) (P over) x

pub leaf_any_out : (k : Clock) (P : LeafState k → Bool) → T (leaf_any k P) → (p : LeafState k) × T (P p)
leaf_any_out free P x = (tt, x)
leaf_any_out (on c) P x = go (or_out (P waiting) (P over) x)
  where
    go : T (P waiting) ⊎ T (P over) → (p : Leaf) × T (P p)
    go (inl y) = (waiting, y)
    go (inr y) = (over, y)
