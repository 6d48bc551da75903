-- Tables: the tree of an entry, over the trees of the entries before it.
use Rattle.std.proofs.Common.{◌≡◌, ℕ, zero, suc, ◌+◌, ◌<◌, List, [], ◌∷◌, ◌++◌, length, get_or, take, Some, sym, refl, ap, ◌∙◌, subst, append_assoc, append-nil, arith}
use Rattle.std.specs.List.{slice_get}
use Rattle.std.proofs.lemmas.List.{get_or-append-add, take_at, take_all, length_push}
use Rattle.psl.specs.Table.{grow}

module _ {E T : Type 0} (build : List T → E → T) where
  -- one entry more gives one tree more, built over those there were
  pub grow_push : (acc : List T) (es : List E) (e : E) → grow build acc (es ++ (e ∷ [])) ≡ grow build acc es ++ (build (grow build acc es) e ∷ [])
  grow_push acc [] e = refl
  grow_push acc (x ∷ es) e = grow_push (acc ++ (build acc x ∷ [])) es e

  -- there are as many trees as entries
  pub length_grow : (acc : List T) (es : List E) → length (grow build acc es) ≡ length acc + length es
  length_grow acc [] = omega arith
  length_grow acc (x ∷ es) = let ih = length_grow (acc ++ (build acc x ∷ [])) es in omega (arith, ih, length_push acc (build acc x))

  -- what is grown on top of acc
  abbrev rest : List T → List E → List T
  rest acc [] = []
  rest acc (e ∷ es) = build acc e ∷ rest (acc ++ (build acc e ∷ [])) es

  grow_is : (acc : List T) (es : List E) → grow build acc es ≡ acc ++ rest acc es
  grow_is acc [] = sym (append-nil acc)
  grow_is acc (e ∷ es) =
      let b = build acc e in
      grow_is (acc ++ (b ∷ [])) es ∙ append_assoc acc (b ∷ []) (rest (acc ++ (b ∷ [])) es)

  module _ (d : E) (n : T) where
    abbrev At : List T → ℕ → E → Type 0
    At ts m e = get_or ts m n ≡ build (take m ts) e

    rest_at : (es : List E) (acc : List T) (k : ℕ) → k < length es → At (acc ++ rest acc es) (length acc + k) (get_or es k d)
    rest_at [] acc k h = let z : ⊥ = omega arith in absurd z
    rest_at (e ∷ es) acc zero h =
        get_or-append-add acc (rest acc (e ∷ es)) zero n
        ∙ sym (ap (λ ts. build ts e) (take_at acc (rest acc (e ∷ es)) (length acc + 0) (omega arith)))
    rest_at (e ∷ es) acc (suc k) h =
        let b = build acc e in
        let up = acc ++ (b ∷ []) in
        let ih : At (up ++ rest up es) (length up + k) (get_or es k d) = rest_at es up k (omega arith) in
        let long : length up + k ≡ length acc + suc k = omega (arith, length_push acc b) in
        let same : up ++ rest up es ≡ acc ++ rest acc (e ∷ es) = append_assoc acc (b ∷ []) (rest up es) in
        subst (λ m. At (acc ++ rest acc (e ∷ es)) m (get_or es k d)) long (subst (λ ts. At ts (length up + k) (get_or es k d)) same ih)

    -- the tree of entry k, over the trees of the entries before it
    pub grow_at : (es : List E) (k : ℕ) → k < length es → get_or (grow build [] es) k n ≡ build (take k (grow build [] es)) (get_or es k d)
    grow_at es k h =
        subst (λ ts. At ts k (get_or es k d)) (sym (grow_is [] es)) (subst (λ m. At ([] ++ rest [] es) m (get_or es k d)) (omega arith) (rest_at es [] k h))

  take_grow : (acc : List T) (es : List E) (k : ℕ) → take (length acc + k) (grow build acc es) ≡ grow build acc (take k es)
  take_grow acc [] zero = take_all (length acc + 0) acc (omega arith)
  take_grow acc [] (suc k) = take_all (length acc + suc k) acc (omega arith)
  take_grow acc (e ∷ es) zero = ap (take (length acc + 0)) (grow_is acc (e ∷ es)) ∙ take_at acc (rest acc (e ∷ es)) (length acc + 0) (omega arith)
  take_grow acc (e ∷ es) (suc k) =
      let up = acc ++ (build acc e ∷ []) in
      let long : length acc + suc k ≡ length up + k = omega (arith, length_push acc (build acc e)) in
      ap (λ n. take n (grow build up es)) long ∙ take_grow up es k

  -- the first k trees are those of the first k entries
  pub grow_take : (es : List E) (k : ℕ) → take k (grow build [] es) ≡ grow build [] (take k es)
  grow_take es k = ap (λ n. take n (grow build [] es)) (omega arith) ∙ take_grow [] es k

  nth_rest : (acc : List T) (es : List E) (k : ℕ) (t : T) → slice_get (rest acc es) k ≡ Some t
      → (e : E) × (slice_get es k ≡ Some e) × (t ≡ build (grow build acc (take k es)) e)
  nth_rest acc [] k t is = let wrong : ◌≡◌ {A = ℕ} 0 1 = cc in absurd (omega arith)
  nth_rest acc (e ∷ es) zero t is = (e, refl, cc)
  nth_rest acc (e ∷ es) (suc k) t is = nth_rest (acc ++ (build acc e ∷ [])) es k t is

  -- the tree at a place is built from the entry there, over the trees of the entries before it
  pub grow_nth : (es : List E) (k : ℕ) (t : T) → slice_get (grow build [] es) k ≡ Some t
      → (e : E) × (slice_get es k ≡ Some e) × (t ≡ build (grow build [] (take k es)) e)
  grow_nth es k t is = nth_rest [] es k t (ap (λ ts. slice_get ts k) (sym (grow_is [] es)) ∙ is)
