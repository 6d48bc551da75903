-- Sets of lists of letters, and what their lists begin with.
use Rattle.std.proofs.Common.{◌≡◌, ℕ, ◌⊎◌, ◌↔◌, List, [], ◌∷◌, ◌++◌, sym, refl, ap, subst, inl, inr, arith}
use Rattle.psl.specs.Letter.{Letter}
use Rattle.psl.specs.Clocked.{Repeats, done, more}

abbrev pub Lang : Type 1
Lang = List Letter → Type 0

abbrev pub after : Letter → Lang → Lang
after l L v = L (l ∷ v)

abbrev pub Concat : Lang → Lang → Lang
Concat L K v = (u : List Letter) × (w : List Letter) × (v ≡ u ++ w) × L u × K w

abbrev pub Fusion : Lang → Lang → Lang
Fusion L K v = (u : List Letter) × (l : Letter) × (w : List Letter) × (v ≡ u ++ (l ∷ w)) × L (u ++ (l ∷ [])) × K (l ∷ w)

-- constructors of lists
pub head_eq : {l m : Letter} {v w : List Letter} → ◌≡◌ {A = List Letter} (l ∷ v) (m ∷ w) → l ≡ m
head_eq e = cc

pub tail_eq : {l m : Letter} {v w : List Letter} → ◌≡◌ {A = List Letter} (l ∷ v) (m ∷ w) → v ≡ w
tail_eq e = cc

pub nil_cons : {l : Letter} {v : List Letter} {X : Type 0} → ◌≡◌ {A = List Letter} [] (l ∷ v) → X
nil_cons {l} {v} e = absurd (let z : ◌≡◌ {A = ℕ} 0 1 = cc in omega arith)

-- the first letter of a concatenation
module _ (L K : Lang) where
  pub concat_nil_out : Concat L K [] → L [] × K []
  concat_nil_out t = go t.0 t.1 t.2 t.3 t.4
    where
      go : (u w : List Letter) → [] ≡ u ++ w → L u → K w → L [] × K []
      go [] [] e x y = (x, y)
      go [] (m ∷ w) e x y = nil_cons e
      go (m ∷ u) w e x y = nil_cons e

  pub concat_nil_in : L [] → K [] → Concat L K []
  concat_nil_in x y = ([], [], refl, x, y)

  pub concat_out : (l : Letter) (v : List Letter) → Concat L K (l ∷ v) → (L [] × K (l ∷ v)) ⊎ Concat (after l L) K v
  concat_out l v t = go t.0 t.1 t.2 t.3 t.4
    where
      go : (u w : List Letter) → l ∷ v ≡ u ++ w → L u → K w → (L [] × K (l ∷ v)) ⊎ Concat (after l L) K v
      go [] w e x y = inl (x, subst K (sym e) y)
      go (m ∷ u) w e x y = inr (u, w, tail_eq e, subst (λ (n : Letter). L (n ∷ u)) (sym (head_eq e)) x, y)

  pub concat_skip : (l : Letter) (v : List Letter) → L [] → K (l ∷ v) → Concat L K (l ∷ v)
  concat_skip l v x y = ([], l ∷ v, refl, x, y)

  pub concat_cons : (l : Letter) (v : List Letter) → Concat (after l L) K v → Concat L K (l ∷ v)
  concat_cons l v t = (l ∷ t.0, t.1, ap (λ (z : List Letter). l ∷ z) t.2, t.3, t.4)

  -- the same of a fusion
  pub fusion_nil : Fusion L K [] → ⊥
  fusion_nil t = go t.0 t.3
    where
      go : (u : List Letter) → [] ≡ u ++ (t.1 ∷ t.2) → ⊥
      go [] e = nil_cons e
      go (m ∷ u) e = nil_cons e

  pub fusion_out : (l : Letter) (v : List Letter) → Fusion L K (l ∷ v) → (L (l ∷ []) × K (l ∷ v)) ⊎ Fusion (after l L) K v
  fusion_out l v t = go t.0 t.1 t.2 t.3 t.4 t.5
    where
      go : (u : List Letter) (n : Letter) (w : List Letter) → l ∷ v ≡ u ++ (n ∷ w) → L (u ++ (n ∷ [])) → K (n ∷ w)
          → (L (l ∷ []) × K (l ∷ v)) ⊎ Fusion (after l L) K v
      go [] n w e x y = inl (subst (λ (k : Letter). L (k ∷ [])) (sym (head_eq e)) x, subst K (sym e) y)
      go (m ∷ u) n w e x y = inr (u, n, w, tail_eq e, subst (λ (k : Letter). L (k ∷ (u ++ (n ∷ [])))) (sym (head_eq e)) x, y)

  pub fusion_here : (l : Letter) (v : List Letter) → L (l ∷ []) → K (l ∷ v) → Fusion L K (l ∷ v)
  fusion_here l v x y = ([], l, v, refl, x, y)

  pub fusion_cons : (l : Letter) (v : List Letter) → Fusion (after l L) K v → Fusion L K (l ∷ v)
  fusion_cons l v t = (l ∷ t.0, t.1, t.2, ap (λ (z : List Letter). l ∷ z) t.3, t.4, t.5)

pub concat_nil : (L K : Lang) → Concat L K [] ↔ (L [] × K [])
concat_nil L K = (concat_nil_out L K, λ t. concat_nil_in L K t.0 t.1)

pub concat_one : (L K : Lang) (l : Letter) → Concat L K (l ∷ []) ↔ ((L [] × K (l ∷ [])) ⊎ (L (l ∷ []) × K []))
concat_one L K l = (λ t. there (concat_out L K l [] t), back)
  where
    there : (L [] × K (l ∷ [])) ⊎ Concat (after l L) K [] → (L [] × K (l ∷ [])) ⊎ (L (l ∷ []) × K [])
    there (inl x) = inl x
    there (inr x) = inr (concat_nil_out (after l L) K x)

    back : (L [] × K (l ∷ [])) ⊎ (L (l ∷ []) × K []) → Concat L K (l ∷ [])
    back (inl x) = concat_skip L K l [] x.0 x.1
    back (inr x) = concat_cons L K l [] (concat_nil_in (after l L) K x.0 x.1)

pub fusion_one : (L K : Lang) (l : Letter) → Fusion L K (l ∷ []) ↔ (L (l ∷ []) × K (l ∷ []))
fusion_one L K l = (λ t. there (fusion_out L K l [] t), λ t. fusion_here L K l [] t.0 t.1)
  where
    there : (L (l ∷ []) × K (l ∷ [])) ⊎ Fusion (after l L) K [] → L (l ∷ []) × K (l ∷ [])
    there (inl x) = x
    there (inr x) = absurd (fusion_nil (after l L) K x)

-- the first letter of a repetition
pub repeats_out : (P : Lang) (v : List Letter) → Repeats P v
    → (v ≡ []) ⊎ ((l : Letter) × (u : List Letter) × (w : List Letter) × (v ≡ l ∷ (u ++ w)) × P (l ∷ u) × Repeats P w)
repeats_out P v done = inl refl
repeats_out P v (more l u w e x y) = inr (l, u, w, e, x, y)

pub star_out : (P : Lang) (l : Letter) (v : List Letter) → Repeats P (l ∷ v) → Concat (after l P) (Repeats P) v
star_out P l v t =
    elim (repeats_out P (l ∷ v) t) [
      | inl e ↦ nil_cons (sym e)
      | inr h ↦ (h.1, h.2, tail_eq h.3, subst (λ (n : Letter). P (n ∷ h.1)) (sym (head_eq h.3)) h.4, h.5)
    ]

pub star_in : (P : Lang) (l : Letter) (v : List Letter) → Concat (after l P) (Repeats P) v → Repeats P (l ∷ v)
star_in P l v t = more l t.0 t.1 (ap (λ (z : List Letter). l ∷ z) t.2) t.3 t.4

pub star_one : (P : Lang) (l : Letter) → Repeats P (l ∷ []) ↔ P (l ∷ [])
star_one P l = (
  λ t. (concat_nil_out (after l P) (Repeats P) (star_out P l [] t)).0,
  λ x. star_in P l [] (concat_nil_in (after l P) (Repeats P) x done),
)
