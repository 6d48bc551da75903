-- What the met pairs below a key add in all.
use Rattle.std.proofs.Common.{◌≡◌, ℕ, zero, suc, ◌+◌, ◌/◌, ◌≤◌, Bool, true, false, cond, List, get_or, sym, ap, ◌∙◌, subst, ⊎_elim, add-one, arith}
use Rattle.std.proofs.lemmas.Bool.{cases_lt}
use Rattle.form.specs.Pairs.{total}

module _ {E : Type 0} (e : E) (adds : E → ℕ) (es : List E) (met : List Bool) where
  pub total_mono : (m n : ℕ) → m ≤ n → total e adds es met m ≤ total e adds es met n
  total_mono m zero h = let is : m ≡ 0 = omega arith in subst (λ k. total e adds es met k ≤ 0) (sym is) (omega arith)
  total_mono m (suc n) h =
      ⊎_elim
      (λ l. let ih = total_mono m n (omega arith) in omega (arith, ih))
      (λ l. let is : m ≡ suc n = omega arith in subst (λ k. total e adds es met k ≤ total e adds es met (suc n)) (sym is) (omega arith))
      (cases_lt m (suc n))

  -- one more pair, marked or not
  pub total_yes : (k : ℕ) → get_or met k false ≡ true → total e adds es met (k + 1) ≡ total e adds es met k + adds (get_or es (k / 64) e)
  total_yes k is = ap (total e adds es met) (add-one k) ∙ ap (λ b. total e adds es met k + cond b (adds (get_or es (k / 64) e)) 0) is

  pub total_no : (k : ℕ) → get_or met k false ≡ false → total e adds es met (k + 1) ≡ total e adds es met k
  total_no k is = ap (total e adds es met) (add-one k) ∙ ap (λ b. total e adds es met k + cond b (adds (get_or es (k / 64) e)) 0) is ∙ omega arith
