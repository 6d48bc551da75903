-- Rows of flags: what they tell at first, and with one condition more.
use Rattle.std.proofs.Common.{◌≡◌, ℕ, ◌+◌, ◌*◌, ◌<◌, ◌≤◌, min, Bool, true, false, cond, not, ◌&&◌, eqb, ltb, ◌⊎◌, List, [], ◌∷◌, ◌++◌, length, get_or, take, sym, refl, ap, ◌∙◌, ap₂, inl, inr, arith, length-take}
use Rattle.std.proofs.lemmas.List.{take_more, get_or_push, get_or_append_left, get_or_past, length_push}
use Rattle.std.proofs.lemmas.Bool.{cases_order, eq-eqb, ne_eqb, lt-ltb}
use Rattle.std.proofs.lemmas.Bool.Decides.{nat_tests as tests}
use Rattle.bits.specs.Flags.{flagged}
use Rattle.psl.specs.Letter.{Letter, top, bottom, ordinary, mirror, satisfies}
use Rattle.psl.specs.Named.{Like}
use Rattle.psl.specs.Syntax.{Condition, falsity, atom, conjunction}
use Rattle.psl.specs.Table.{condition_of, conditions}
use Rattle.psl.specs.declared.entry.Condition as entry
use Rattle.psl.specs.declared.entry.Condition.TheVariants as c
use Rattle.psl.proofs.Grow.{grow_push, length_grow}
use Rattle.psl.proofs.Mirrors.{satisfies_negation, mirror_twice}
use Rattle.truth.specs.Cell.{worked}
use Rattle.truth.specs.Rows.{tells, letter_of, named}

filled_tells : (row : List ℕ) (flag : Bool) (n : ℕ) → n ≡ 33 → ((j : ℕ) → flagged row j ≡ (ltb j (8 * n) && flag)) → (a : ℕ) → tells row a ≡ flag
filled_tells row flag n e filled a = filled (min a 256) ∙ ap (λ b. b && flag) (lt-ltb (min a 256) (8 * n) (omega arith))

-- filled rows tell of the condition false only
pub like_filled : (l : Letter) (own other : List ℕ) (n m : ℕ) (p q : Bool) → n ≡ 33 → m ≡ 33 → p ≡ satisfies l falsity → q ≡ satisfies (mirror l) falsity
    → ((j : ℕ) → flagged own j ≡ (ltb j (8 * n) && p)) → ((j : ℕ) → flagged other j ≡ (ltb j (8 * m) && q))
    → Like atom (named []) (letter_of own other) l
unfolding conditions
like_filled l own other n m p q e f is its filled filled_other a =
    (filled_tells own p n e filled a ∙ is, filled_tells other q m f filled_other a ∙ its)

satisfies_both : (l : Letter) (b d : Condition) → satisfies l (conjunction b d) ≡ (satisfies l b && satisfies l d)
satisfies_both top b d = refl
satisfies_both bottom b d = refl
satisfies_both (ordinary own other) b d = refl

-- the flag of an entry is worked out from rows that tell of the entries before it
worked_is : (l : Letter) (es : List entry.Condition) (own other : List ℕ)
    → ((a : ℕ) → tells own a ≡ satisfies l (named es a)) → ((a : ℕ) → tells other a ≡ satisfies (mirror l) (named es a))
    → (e : entry.Condition) → worked l own other e ≡ satisfies l (condition_of (conditions es) e)
worked_is l es own other h k c.True = refl
worked_is l es own other h k c.False = refl
worked_is l es own other h k (c.Atom n) = refl
worked_is l es own other h k (c.Not a) = ap not (k a) ∙ sym (satisfies_negation l (named es a))
worked_is l es own other h k (c.And a b) = ap₂ (λ x y. x && y) (h a) (h b) ∙ sym (satisfies_both l (named es a) (named es b))

push_at : (cs : List Condition) (x : Condition) (n a : ℕ) → length cs ≡ n → get_or (cs ++ (x ∷ [])) a falsity ≡ cond (eqb a n) x (get_or cs a falsity)
push_at cs x n a long = go (cases_order a n)
  where
    go : (a ≡ n) ⊎ ((a < n) ⊎ (n < a)) → get_or (cs ++ (x ∷ [])) a falsity ≡ cond (eqb a n) x (get_or cs a falsity)
    go (inl e) = get_or_push cs x falsity a (long ∙ sym e) ∙ sym (ap (λ b. cond b x (get_or cs a falsity)) (eq-eqb a n e))
    go (inr (inl h)) = get_or_append_left cs (x ∷ []) falsity a (omega arith) ∙ sym (ap (λ b. cond b x (get_or cs a falsity)) (ne_eqb a n (λ e. omega arith)))
    go (inr (inr h)) =
        get_or_past (cs ++ (x ∷ [])) a falsity (omega (arith, length_push cs x))
        ∙ sym (ap (λ b. cond b x (get_or cs a falsity)) (ne_eqb a n (λ e. omega arith)) ∙ get_or_past cs a falsity (omega arith))

-- what the names stand for with one entry more
named_more : (es : List entry.Condition) (n : ℕ) (d : entry.Condition) → n < length es → (a : ℕ)
    → named (take (n + 1) es) a ≡ cond (eqb a n) (condition_of (conditions (take n es)) (get_or es n d)) (named (take n es) a)
unfolding conditions
named_more es n d h a =
    let long : length (conditions (take n es)) ≡ n = length_grow condition_of [] (take n es) ∙ simp length-take (omega arith) in
    ap (λ x. get_or (conditions x) a falsity) (take_more es n d h)
    ∙ ap (λ x. get_or x a falsity) (grow_push condition_of [] (take n es) (get_or es n d))
    ∙ push_at (conditions (take n es)) (condition_of (conditions (take n es)) (get_or es n d)) n a long

cond_satisfies : (l : Letter) (b : Bool) (x y : Condition) → cond b (satisfies l x) (satisfies l y) ≡ satisfies l (cond b x y)
cond_satisfies l true x y = refl
cond_satisfies l false x y = refl

-- one flag more of a row
row_more : (l : Letter) (f g : ℕ → Condition) (x : Condition) (n : ℕ) (old new : List ℕ) (v : Bool) → n < 256
    → ((a : ℕ) → g a ≡ cond (eqb a n) x (f a)) → ((j : ℕ) → flagged new j ≡ cond (eqb j n) v (flagged old j)) → v ≡ satisfies l x
    → ((a : ℕ) → tells old a ≡ satisfies l (f a)) → (a : ℕ) → tells new a ≡ satisfies l (g a)
row_more l f g x n old new v few more put is told a =
    let same : eqb (min a 256) n ≡ eqb a n = grind (arith, tests) in
    put (min a 256)
    ∙ ap (λ b. cond b v (tells old a)) same
    ∙ ap₂ (λ p q. cond (eqb a n) p q) is (told a)
    ∙ cond_satisfies l (eqb a n) x (f a)
    ∙ ap (satisfies l) (sym (more a))

-- one condition more of both rows, each flag worked out from the rows before
pub like_more : (l : Letter) (es : List entry.Condition) (n : ℕ) (d : entry.Condition) (own other own' other' : List ℕ) (v w : Bool)
    → length es ≤ 256 → n < length es → v ≡ worked l own other (get_or es n d) → w ≡ worked (mirror l) other own (get_or es n d)
    → ((j : ℕ) → flagged own' j ≡ cond (eqb j n) v (flagged own j)) → ((j : ℕ) → flagged other' j ≡ cond (eqb j n) w (flagged other j))
    → Like atom (named (take n es)) (letter_of own other) l → Like atom (named (take (n + 1) es)) (letter_of own' other') l
like_more l es n d own other own' other' v w few h is its put put_other like a =
    let f = named (take n es) in
    let e = get_or es n d in
    let x = condition_of (conditions (take n es)) e in
    let more = named_more es n d h in
    let told : (a : ℕ) → tells own a ≡ satisfies l (f a) = λ a. (like a).0 in
    let told_other : (a : ℕ) → tells other a ≡ satisfies (mirror l) (f a) = λ a. (like a).1 in
    let told_back : (a : ℕ) → tells own a ≡ satisfies (mirror (mirror l)) (f a) = λ a. (like a).0 ∙ ap (λ m. satisfies m (f a)) (sym (mirror_twice l)) in (
      row_more l f (named (take (n + 1) es)) x n own own' v (omega arith) more put (is ∙ worked_is l (take n es) own other told told_other e) told a,
      row_more (mirror l) f (named (take (n + 1) es)) x n other other' w (omega arith) more put_other
          (its ∙ worked_is (mirror l) (take n es) other own told_other told_back e) told_other a,
    )
