-- Tests, equivalences and decisions.
use Rattle.std.proofs.Common.{◌≡◌, ℕ, zero, suc, ◌<◌, ◌≤◌, Bool, true, false, not, ◌&&◌, ◌||◌, T, ◌⊎◌, ◌↔◌, refl, inl, inr, zero-le, arith}

-- tests
pub and_in : (a b : Bool) → T a → T b → T (a && b)
and_in true b x y = y
and_in false b x y = x

pub and_out : (a b : Bool) → T (a && b) → T a × T b
and_out true b x = (tt, x)
and_out false b x = absurd x

pub or_left : (a b : Bool) → T a → T (a || b)
or_left true b x = tt
or_left false b x = absurd x

pub or_right : (a b : Bool) → T b → T (a || b)
or_right true b x = tt
or_right false b x = x

pub or_out : (a b : Bool) → T (a || b) → T a ⊎ T b
or_out true b x = inl tt
or_out false b x = inr x

pub not_right : (b : Bool) → T (not b) ↔ (T b → ⊥)
not_right true = (λ h x. h, λ h. h tt)
not_right false = (λ h x. x, λ h. tt)

pub imp_in : (b x : Bool) → (T b → T x) → T (not b || x)
imp_in true x h = h tt
imp_in false x h = tt

pub imp_out : (b x : Bool) → T (not b || x) → T b → T x
imp_out true x h k = h
imp_out false x h k = absurd k

pub or_false : (b : Bool) → T (b || false) → T b
or_false true h = tt
or_false false h = h

pub same_test : (a b : Bool) → (T a → T b) → (T b → T a) → a ≡ b
same_test true true f g = refl
same_test true false f g = absurd (f tt)
same_test false true f g = absurd (g tt)
same_test false false f g = refl

pub and_true : (b : Bool) → (b && true) ≡ b
and_true true = refl
and_true false = refl

-- equivalences
pub iff_and : {A B : Type 0} (a b : Bool) → A ↔ T a → B ↔ T b → (A × B) ↔ T (a && b)
iff_and a b x y =
    (λ t. and_in a b (x.0 t.0) (y.0 t.1), λ t. let o = and_out a b t in (x.1 o.0, y.1 o.1))

pub iff_or : {A B : Type 0} (a b : Bool) → A ↔ T a → B ↔ T b → (A ⊎ B) ↔ T (a || b)
iff_or {A} {B} a b x y = (there, λ t. back (or_out a b t))
  where
    there : A ⊎ B → T (a || b)
    there (inl t) = or_left a b (x.0 t)
    there (inr t) = or_right a b (y.0 t)

    back : T a ⊎ T b → A ⊎ B
    back (inl t) = inl (x.1 t)
    back (inr t) = inr (y.1 t)

pub iff_trans : {A B C : Type 0} → A ↔ B → B ↔ C → A ↔ C
iff_trans x y = (λ a. y.0 (x.0 a), λ c. x.1 (y.1 c))

pub iff_not : {A : Type 0} (b : Bool) → A ↔ T b → (A → ⊥) ↔ T (not b)
iff_not b e = (λ n. (not_right b).1 (λ x. n (e.1 x)), λ h a. (not_right b).0 h (e.0 a))

pub iff_sym : {A B : Type 0} → A ↔ B → B ↔ A
iff_sym e = (e.1, e.0)

-- decisions
pub dec_T : (b : Bool) → Dec (T b)
dec_T true = yes tt
dec_T false = no (λ x. x)

pub dec_iff : {A B : Type 0} → A ↔ B → Dec B → Dec A
dec_iff e (yes x) = yes (e.1 x)
dec_iff e (no f) = no (λ a. f (e.0 a))

pub dec_and : {A B : Type 0} → Dec A → Dec B → Dec (A × B)
dec_and (yes x) (yes y) = yes (x, y)
dec_and (yes x) (no g) = no (λ t. g t.1)
dec_and (no f) d = no (λ t. f t.0)

pub dec_or : {A B : Type 0} → Dec A → Dec B → Dec (A ⊎ B)
dec_or (yes x) d = yes (inl x)
dec_or (no f) (yes y) = yes (inr y)
dec_or {A} {B} (no f) (no g) = no neither
  where
    neither : A ⊎ B → ⊥
    neither (inl x) = f x
    neither (inr y) = g y

pub dec_imp : {A B : Type 0} → Dec A → Dec B → Dec (A → B)
dec_imp d (yes y) = yes (λ x. y)
dec_imp (no f) (no g) = yes (λ x. absurd (f x))
dec_imp (yes x) (no g) = no (λ h. g (h x))

pub settle : {A : Type 0} → Dec A → ((A → ⊥) → ⊥) → A
settle (yes x) n = x
settle (no y) n = absurd (n y)

pub dec_not : {A : Type 0} → Dec A → Dec (A → ⊥)
dec_not (yes x) = no (λ n. n x)
dec_not (no n) = yes n

-- bounded search
pub below_or : (j n : ℕ) → (j < n) ⊎ (n ≤ j)
below_or j zero = inr zero-le
below_or zero (suc n) = inl (omega arith)
below_or (suc j) (suc n) = elim (below_or j n) [ inl h ↦ inl (omega arith) | inr h ↦ inr (omega arith) ]

pub dec_some_below : (n : ℕ) (P : ℕ → Type 0) → ((j : ℕ) → Dec (P j)) → Dec ((j : ℕ) × (j < n) × P j)
dec_some_below zero P d = no (λ t. omega (arith, t.1))
dec_some_below (suc n) P d = go (d 0) (dec_some_below n (λ i. P (suc i)) (λ i. d (suc i)))
  where
    go : Dec (P 0) → Dec ((i : ℕ) × (i < n) × P (suc i)) → Dec ((j : ℕ) × (j < suc n) × P j)
    go (yes x) e = yes (0, omega arith, x)
    go (no f) (yes y) = yes (suc y.0, omega (arith, y.1), y.2)
    go (no f) (no g) = no (λ t. none t.0 t.1 t.2)
      where
        none : (j : ℕ) → j < suc n → P j → ⊥
        none zero h x = f x
        none (suc j) h x = g (j, omega arith, x)

pub dec_all_below : (n : ℕ) (P : ℕ → Type 0) → ((j : ℕ) → Dec (P j)) → Dec ((j : ℕ) → j < n → P j)
dec_all_below zero P d = yes (λ j h. absurd (omega arith))
dec_all_below (suc n) P d = go (d 0) (dec_all_below n (λ i. P (suc i)) (λ i. d (suc i)))
  where
    go : Dec (P 0) → Dec ((i : ℕ) → i < n → P (suc i)) → Dec ((j : ℕ) → j < suc n → P j)
    go (no f) e = no (λ h. f (h 0 (omega arith)))
    go (yes x) (no g) = no (λ h. g (λ i k. h (suc i) (omega arith)))
    go (yes x) (yes y) = yes all
      where
        all : (j : ℕ) → j < suc n → P j
        all zero h = x
        all (suc j) h = y j (omega arith)

-- a property that does not change from n on
pub dec_some : (n : ℕ) (P : ℕ → Type 0) → ((j : ℕ) → Dec (P j)) → ((j : ℕ) → n ≤ j → P j → P n) → Dec ((j : ℕ) × P j)
dec_some n P d s = go (dec_some_below (suc n) P d)
  where
    go : Dec ((j : ℕ) × (j < suc n) × P j) → Dec ((j : ℕ) × P j)
    go (yes t) = yes (t.0, t.2)
    go (no f) = no (λ t. elim (below_or t.0 (suc n)) [ inl h ↦ f (t.0, h, t.1) | inr h ↦ f (n, omega arith, s t.0 (omega arith) t.1) ])

pub dec_all : (n : ℕ) (P : ℕ → Type 0) → ((j : ℕ) → Dec (P j)) → ((j : ℕ) → n ≤ j → P n → P j) → Dec ((j : ℕ) → P j)
dec_all n P d s = go (dec_all_below (suc n) P d)
  where
    go : Dec ((j : ℕ) → j < suc n → P j) → Dec ((j : ℕ) → P j)
    go (yes t) = yes (λ j. elim (below_or j (suc n)) [ inl h ↦ t j h | inr h ↦ s j (omega arith) (t n (omega arith)) ])
    go (no f) = no (λ t. f (λ j h. t j))
