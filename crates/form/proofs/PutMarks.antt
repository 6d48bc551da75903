-- What is known of marks after some were put.
use Rattle.std.proofs.Common.{◌≡◌, ℕ, ◌*◌, ◌<◌, ◌≤◌, Bool, true, false, cond, ◌&&◌, ltb, ◌⊎◌, List, length, get_or, set, sym, refl, ap, ◌∙◌, inl, inr, ⊎_elim, arith, length-set, get_or-set_other, get_or-set_same}
use Rattle.std.proofs.lemmas.Bool.{ltb-true, and_parts, cases_eq}
use Rattle.form.specs.Pairs.{key}
use Rattle.form.specs.SequenceImages.{Marked}

-- a mark that is put
pub put_same : (met : List Bool) (m : ℕ) → m < length met → get_or (set met m true) m false ≡ true
put_same met m h = get_or-set_same met m true false h

pub put_keeps : (met : List Bool) (m k : ℕ) → m < length met → get_or met k false ≡ true → get_or (set met m true) k false ≡ true
put_keeps met m k h e =
    ⊎_elim (λ is. ap (λ j. get_or (set met m true) j false) is ∙ put_same met m h) (λ ne. get_or-set_other met m k true false ne ∙ e) (cases_eq k m)

pub put_only : (met : List Bool) (m k : ℕ) → m < length met → get_or (set met m true) k false ≡ true → (k ≡ m) ⊎ (get_or met k false ≡ true)
put_only met m k h e = ⊎_elim (λ is. inl is) (λ ne. inr (sym (get_or-set_other met m k true false ne) ∙ e)) (cases_eq k m)

-- what is known of marks after those that G speaks of were put, all below key top
pub record Put (G : (ℕ → ℕ → Type 0) → Type 0) (top : ℕ) (met new : List Bool) : Type 1 where
  pub long : length new ≡ length met
  pub kept : (k : ℕ) → get_or met k false ≡ true → get_or new k false ≡ true
  pub done : G (Marked new)
  pub upper : (k : ℕ) → top ≤ k → get_or new k false ≡ true → get_or met k false ≡ true
  pub only : (Q : ℕ → ℕ → Type 0) → G Q → (k : ℕ) → get_or new k false ≡ true → (get_or met k false ≡ true) ⊎ ((a : ℕ) × (b : ℕ) × (b < 64) × (k ≡ key a b) × Q a b)

pub none : (G : (ℕ → ℕ → Type 0) → Type 0) (top : ℕ) (met : List Bool) → G (Marked met) → Put G top met met
none G top met x = record { long = refl; kept = λ k m. m; done = x; upper = λ k h m. m; only = λ Q q k m. inl m }

pub one : (G : (ℕ → ℕ → Type 0) → Type 0) (top : ℕ) (met : List Bool) (a b : ℕ) → key a b < top → b < 64 → key a b < length met
    → ((P : ℕ → ℕ → Type 0) → P a b → G P) → ((Q : ℕ → ℕ → Type 0) → G Q → Q a b) → Put G top met (set met (key a b) true)
one G top met a b l m h x g =
    record {
      long = length-set met (key a b) true;
      kept = λ k y. put_keeps met (key a b) k h y;
      done = x (Marked _) (put_same met (key a b) h);
      upper = λ k u y. ⊎_elim (λ is. let z : ⊥ = omega arith in absurd z) (λ w. w) (put_only met (key a b) k h y);
      only = λ Q q k y. ⊎_elim (λ is. inr (a, b, m, is, g Q q)) (λ w. inl w) (put_only met (key a b) k h y);
    }

two : (G : (ℕ → ℕ → Type 0) → Type 0) (top : ℕ) (met : List Bool) (a b c : ℕ) → key a c < top → key b c < top → c < 64 → key a c < length met → key b c < length met
    → ((P : ℕ → ℕ → Type 0) → P a c → P b c → G P) → ((Q : ℕ → ℕ → Type 0) → G Q → Q a c × Q b c)
    → Put G top met (set (set met (key a c) true) (key b c) true)
two G top met a b c la lb m ha hb x g =
    let long : length (set met (key a c) true) ≡ length met = length-set met (key a c) true in
    let hb' : key b c < length (set met (key a c) true) = omega arith in
    record {
      long = length-set (set met (key a c) true) (key b c) true ∙ long;
      kept = λ k y. put_keeps _ (key b c) k hb' (put_keeps met (key a c) k ha y);
      done = x (Marked _) (put_keeps _ (key b c) (key a c) hb' (put_same met (key a c) ha)) (put_same _ (key b c) hb');
      upper = λ k u y.
          ⊎_elim (λ is. let z : ⊥ = omega arith in absurd z)
          (λ w. ⊎_elim (λ is. let z : ⊥ = omega arith in absurd z) (λ v. v) (put_only met (key a c) k ha w)) (put_only _ (key b c) k hb' y);
      only = λ Q q k y.
          ⊎_elim (λ is. inr (b, c, m, is, (g Q q).1))
          (λ w. ⊎_elim (λ is. inr (a, c, m, is, (g Q q).0)) (λ v. inl v) (put_only met (key a c) k ha w)) (put_only _ (key b c) k hb' y);
    }

-- the operands of entry i are lower
module _ (i c : ℕ) (small : i ≤ 63) (l : c < 64) where
  low : (a b : ℕ) → ltb a i ≡ true → b < 64 → key a b < 64 * i
  low a b q r = let h = ltb-true a i q in omega arith

  fits : (met : List Bool) (a b : ℕ) → length met ≡ 4096 → ltb a i ≡ true → b < 64 → key a b < length met
  fits met a b long q r = let h = ltb-true a i q in omega arith

  pub single : (G : (ℕ → ℕ → Type 0) → Type 0) (met : List Bool) (a b : ℕ) → length met ≡ 4096 → ltb a i ≡ true → b < 64
      → ((P : ℕ → ℕ → Type 0) → P a b → G P) → ((Q : ℕ → ℕ → Type 0) → G Q → Q a b) → Put G (64 * i) met (set met (key a b) true)
  single G met a b long q r x g = one G (64 * i) met a b (low a b q r) r (fits met a b long q r) x g

  pub double : (G : (ℕ → ℕ → Type 0) → Type 0) (met : List Bool) (a b : ℕ) → length met ≡ 4096 → (ltb a i && ltb b i) ≡ true
      → ((P : ℕ → ℕ → Type 0) → P a c → P b c → G P) → ((Q : ℕ → ℕ → Type 0) → G Q → Q a c × Q b c) → Put G (64 * i) met (set (set met (key a c) true) (key b c) true)
  double G met a b long q x g =
      let h = and_parts (ltb a i) (ltb b i) q in
      two G (64 * i) met a b c (low a c h.0 l) (low b c h.1 l) l (fits met a c long h.0 l) (fits met b c long h.1 l) x g

-- by going down over one key
pub meets_one : {M : Type 0} (b : Bool) (P Q : M → Type 0) (x y : M) → ((z : M) → P z → Q z) → (b ≡ true → P x) → (b ≡ false → P y) → Q (cond b x y)
meets_one true P Q x y down yes_case no_case = down x (yes_case refl)
meets_one false P Q x y down yes_case no_case = down y (no_case refl)
