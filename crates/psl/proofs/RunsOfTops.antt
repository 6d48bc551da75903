-- Runs of tops in sets of lists: some non-empty run, and all that are long enough.
use Rattle.std.proofs.Common.{◌≡◌, ℕ, zero, suc, ◌+◌, ◌≤◌, max, Bool, true, ◌&&◌, ◌||◌, T, ◌⊎◌, ◌↔◌, List, [], ◌∷◌, ◌++◌, sym, refl, ap, ◌∙◌, subst, inl, inr, append-nil, arith}
use Rattle.psl.specs.Letter.{Letter, top}
use Rattle.psl.specs.Clocked.{Repeats, done, more}
use Rattle.psl.specs.Automaton.{run_of_tops}
use Rattle.psl.proofs.Languages.{Lang, Concat, Fusion, head_eq, tail_eq, nil_cons, repeats_out}
use Rattle.psl.proofs.Tests.{and_in, and_out, or_left, or_right, or_out, and_true}

tops_split : (k n : ℕ) → k ≤ n → (m : ℕ) × (run_of_tops n ≡ run_of_tops k ++ run_of_tops m) × (k + m ≡ n)
tops_split zero n h = (n, refl, omega arith)
tops_split (suc k) zero h = absurd (omega arith)
tops_split (suc k) (suc n) h =
    let z = tops_split k n (omega arith) in
    (z.0, ap (λ (v : List Letter). top ∷ v) z.1, omega (arith, z.2))

pub tops_snoc : (n : ℕ) → run_of_tops (suc n) ≡ run_of_tops n ++ (top ∷ [])
tops_snoc zero = refl
tops_snoc (suc n) = ap (λ (v : List Letter). top ∷ v) (tops_snoc n)

-- the parts of a run of tops
tops_parts : (n : ℕ) (u w : List Letter) → run_of_tops n ≡ u ++ w → (i : ℕ) × (j : ℕ) × (u ≡ run_of_tops i) × (w ≡ run_of_tops j)
tops_parts n [] w e = (0, n, refl, sym e)
tops_parts zero (l ∷ u) w e = nil_cons e
tops_parts (suc n) (l ∷ u) w e =
    let z = tops_parts n u w (tail_eq e) in
    (suc z.0, z.1, (let a = head_eq e in let b = z.2 in cc), z.3)

-- from some length on, every run of tops
abbrev pub Late : Lang → Type 0
Late L = (k : ℕ) × ((n : ℕ) → k ≤ n → L (run_of_tops n))

-- some non-empty run of tops
abbrev pub Some : Lang → Type 0
Some L = (n : ℕ) × L (run_of_tops (suc n))

pub late_some : (L : Lang) → Late L → Some L
late_some L t = (t.0, t.1 (suc t.0) (omega arith))

module _ (L K : Lang) where
  late_concat : Late L → Late K → Late (Concat L K)
  late_concat x y = (x.0 + y.0, go)
    where
      go : (n : ℕ) → x.0 + y.0 ≤ n → Concat L K (run_of_tops n)
      go n h =
          let z = tops_split x.0 n (omega arith) in
          (run_of_tops x.0, run_of_tops z.0, z.1, x.1 x.0 (omega arith), y.1 z.0 (omega (arith, z.2)))

  late_concat_left : Late L → K [] → Late (Concat L K)
  late_concat_left x y = (x.0, λ n h. (run_of_tops n, [], sym (append-nil (run_of_tops n)), x.1 n h, y))

  late_concat_right : L [] → Late K → Late (Concat L K)
  late_concat_right x y = (y.0, λ n h. ([], run_of_tops n, refl, x, y.1 n h))

  late_fusion : Late L → Late K → Late (Fusion L K)
  late_fusion x y = (x.0 + suc y.0, λ n h. let z = tops_split x.0 n (omega arith) in go n z.0 z.1 (omega (arith, z.2)))
    where
      go : (n m : ℕ) → run_of_tops n ≡ run_of_tops x.0 ++ run_of_tops m → suc y.0 ≤ m → Fusion L K (run_of_tops n)
      go n zero e h = absurd (omega arith)
      go n (suc m) e h =
          (run_of_tops x.0, top, run_of_tops m, e, subst L (tops_snoc x.0) (x.1 (suc x.0) (omega arith)), y.1 (suc m) (omega arith))

  late_both : Late L → Late K → Late (λ v. L v × K v)
  late_both x y = (max x.0 y.0, λ n h. (x.1 n (omega arith), y.1 n (omega arith)))

  -- and back
  some_concat : Some (Concat L K) → (L [] × Some K) ⊎ (Some L × (K [] ⊎ Some K))
  some_concat t =
      let z = tops_parts (suc t.0) t.1.0 t.1.1 t.1.2 in
      go z.0 z.1 (t.1.2 ∙ (let a = z.2 in let b = z.3 in cc)) (subst L z.2 t.1.3) (subst K z.3 t.1.4)
    where
      go : (i j : ℕ) → run_of_tops (suc t.0) ≡ run_of_tops i ++ run_of_tops j → L (run_of_tops i) → K (run_of_tops j)
          → (L [] × Some K) ⊎ (Some L × (K [] ⊎ Some K))
      go zero zero e x y = nil_cons (sym e)
      go zero (suc j) e x y = inl (x, (j, y))
      go (suc i) zero e x y = inr ((i, x), inl y)
      go (suc i) (suc j) e x y = inr ((i, x), inr (j, y))

  some_fusion : Some (Fusion L K) → Some L × Some K
  some_fusion t =
      let z = tops_parts (suc t.0) t.1.0 (t.1.1 ∷ t.1.2) t.1.3 in
      go z.0 z.1 t.1.1 t.1.2 z.3 (subst (λ (u : List Letter). L (u ++ (t.1.1 ∷ []))) z.2 t.1.4) t.1.5
    where
      go : (i j : ℕ) (l : Letter) (w : List Letter) → l ∷ w ≡ run_of_tops j → L (run_of_tops i ++ (l ∷ [])) → K (l ∷ w) → Some L × Some K
      go i zero l w e x y = nil_cons (sym e)
      go i (suc j) l w e x y = (
        (i, subst L (sym (tops_snoc i)) (subst (λ (m : Letter). L (run_of_tops i ++ (m ∷ []))) (head_eq e) x)),
        (j, subst K e y),
      )

late_star : (P : Lang) → Late P → Late (Repeats P)
late_star P x = (suc x.0, go)
  where
    go : (n : ℕ) → suc x.0 ≤ n → Repeats P (run_of_tops n)
    go zero h = absurd (omega arith)
    go (suc n) h = more top (run_of_tops n) [] (sym (append-nil (run_of_tops (suc n)))) (x.1 (suc n) (omega arith)) done

some_star : (P : Lang) → Some (Repeats P) → Some P
some_star P t =
    elim (repeats_out P (run_of_tops (suc t.0)) t.1) [
      | inl e ↦ nil_cons (sym e)
      | inr h ↦
          let z = tops_parts (suc t.0) (h.0 ∷ h.1) h.2 h.3 in
          go z.0 h.0 h.1 z.2 h.4
    ]
  where
    go : (i : ℕ) (l : Letter) (u : List Letter) → l ∷ u ≡ run_of_tops i → P (l ∷ u) → Some P
    go zero l u e x = nil_cons (sym e)
    go (suc i) l u e x = (i, subst P e x)

-- the flag tells whether some non-empty run of tops is in L, and then every run that is long enough is
abbrev pub Tells : Bool → Lang → Type 0
Tells b L = (T b → Late L) × (Some L → T b)

module _ (L K : Lang) (p q : Bool) (x : Tells p L) (y : Tells q K) where
  pub concat_tells : (n m : Bool) → L [] ↔ T n → K [] ↔ T m → Tells ((n && q) || (p && (m || q))) (Concat L K)
  concat_tells n m a b = (λ t. late (or_out (n && q) (p && (m || q)) t), λ t. some_of (some_concat L K t))
    where
      late_left : Late L → T m ⊎ T q → Late (Concat L K)
      late_left l (inl t) = late_concat_left L K l (b.1 t)
      late_left l (inr t) = late_concat L K l (y.0 t)

      late : T (n && q) ⊎ T (p && (m || q)) → Late (Concat L K)
      late (inl t) = let (c, d) = and_out n q t in late_concat_right L K (a.1 c) (y.0 d)
      late (inr t) = let (c, d) = and_out p (m || q) t in late_left (x.0 c) (or_out m q d)

      some_right : K [] ⊎ Some K → T (m || q)
      some_right (inl t) = or_left m q (b.0 t)
      some_right (inr t) = or_right m q (y.1 t)

      some_of : (L [] × Some K) ⊎ (Some L × (K [] ⊎ Some K)) → T ((n && q) || (p && (m || q)))
      some_of (inl (c, d)) = or_left (n && q) (p && (m || q)) (and_in n q (a.0 c) (y.1 d))
      some_of (inr (c, d)) = or_right (n && q) (p && (m || q)) (and_in p (m || q) (x.1 c) (some_right d))

  pub fusion_tells : Tells (p && q) (Fusion L K)
  fusion_tells = (
    (λ t. let (c, d) = and_out p q t in late_fusion L K (x.0 c) (y.0 d)),
    (λ t. let (c, d) = some_fusion L K t in and_in p q (x.1 c) (y.1 d)),
  )

  pub either_tells : Tells (p || q) (λ v. L v ⊎ K v)
  either_tells = (λ t. late (or_out p q t), λ (n, t). some_of n t)
    where
      late : T p ⊎ T q → Late (λ v. L v ⊎ K v)
      late (inl t) = let (n, h) = x.0 t in (n, λ m i. inl (h m i))
      late (inr t) = let (n, h) = y.0 t in (n, λ m i. inr (h m i))

      some_of : (n : ℕ) → L (run_of_tops (suc n)) ⊎ K (run_of_tops (suc n)) → T (p || q)
      some_of n (inl t) = or_left p q (x.1 (n, t))
      some_of n (inr t) = or_right p q (y.1 (n, t))

  pub both_tells : Tells (p && q) (λ v. L v × K v)
  both_tells = (
    (λ t. let (c, d) = and_out p q t in late_both L K (x.0 c) (y.0 d)),
    (λ (n, (c, d)). and_in p q (x.1 (n, c)) (y.1 (n, d))),
  )

pub star_tells : (P : Lang) (p : Bool) → Tells p P → Tells p (Repeats P)
star_tells P p x = ((λ t. late_star P (x.0 t)), (λ t. x.1 (some_star P t)))

pub again_tells : (L P : Lang) (n p q : Bool) → L [] ↔ T n → Tells p L → Tells q P → Tells ((n && q) || p) (Concat L (Repeats P))
again_tells L P n p q a x y =
    subst (λ (b : Bool). Tells ((n && q) || b) (Concat L (Repeats P))) (and_true p)
    (concat_tells L (Repeats P) p q x (star_tells P q y) n true a ((λ e. tt), (λ t. done)))
