-- A wire's value is told by whether it satisfies the atom, and whether its mirror does.
use Rattle.std.specs.Prelude.{◌≡◌, ℕ, Bool, true, false, cond, ◌&&◌, ◌==◌, nat_lt, refl}
use Rattle.std.proofs.Common.{ap, ap₂, ◌∙◌}
use Rattle.bits.specs.Words.{bit}
use Rattle.letter.specs.Put.{put_in}
use Rattle.letter.specs.Values.{satisfied, swapped, value_by, value_at}
use Rattle.letter.specs.declared.value.Value.{Value}
use Rattle.letter.specs.declared.value.Value.TheVariants.{Zero, One, X, Y}

pub own_told : (own other : Bool) → satisfied (value_by own other) ≡ own
own_told true true = refl
own_told true false = refl
own_told false true = refl
own_told false false = refl

pub swap_told : (own other : Bool) → value_by other own ≡ swapped (value_by own other)
swap_told true true = refl
swap_told true false = refl
swap_told false true = refl
swap_told false false = refl

value_told : (v : Value) → value_by (satisfied v) (satisfied (swapped v)) ≡ v
value_told Zero = refl
value_told One = refl
value_told X = refl
value_told Y = refl

put_both : (here : Bool) (v : Value) (a b : Bool) → value_by (cond here (satisfied v) a) (cond here (satisfied (swapped v)) b) ≡ cond here v (value_by a b)
put_both true v a b = value_told v
put_both false v a b = refl

-- a value is put by putting its two flags
pub value_put : (own other n : ℕ) (v w : Value) (p q : Bool) (a b : ℕ) → p ≡ satisfied v → w ≡ swapped v → q ≡ satisfied w
    → ((k : ℕ) → bit a k ≡ put_in (bit own) n p k) → ((k : ℕ) → bit b k ≡ put_in (bit other) n q k)
    → (k : ℕ) → value_at a b k ≡ put_in (value_at own other) n v k
value_put own other n v w p q a b is turned its one two k =
    ap₂ value_by (one k) (two k)
    ∙ ap₂ (λ f g. value_by (cond here f (bit own k)) (cond here g (bit other k))) is (its ∙ ap satisfied turned)
    ∙ put_both here v (bit own k) (bit other k)
  where
    here : Bool
    here = nat_lt n 32 && k == n
