-- Tables by number.
use Rattle.std.specs.Prelude.{ℕ, cond, ◌&&◌, ◌==◌, nat_lt}

-- the table with x at n; a number from 32 on changes nothing
abbrev pub put_in : {X : Type 0} → (ℕ → X) → ℕ → X → ℕ → X
put_in table n x k = cond (nat_lt n 32 && k == n) x (table k)
