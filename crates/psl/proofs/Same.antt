-- What is made in the same way from equal sets of lists and of words is equal.
use Rattle.std.proofs.Common.{ℕ, suc, ◌⊎◌, ◌↔◌, List, [], ◌∷◌, ◌++◌, inl, inr}
use Rattle.psl.specs.Syntax.{Condition}
use Rattle.psl.specs.Letter.{Letter}
use Rattle.psl.specs.Word.{Word, with_tops, mir, seen, Place, Holds, from, front}
use Rattle.psl.specs.Clocked.{Repeats, done, more}
use Rattle.psl.proofs.Languages.{Lang, Concat, Fusion}

-- types
iff_neg : {A B : Type 0} → A ↔ B → (A → ⊥) ↔ (B → ⊥)
iff_neg e = ((λ n x. n (e.1 x)), (λ n x. n (e.0 x)))

pub iff_sum : {A B C D : Type 0} → A ↔ C → B ↔ D → (A ⊎ B) ↔ (C ⊎ D)
iff_sum e f = (elim [ inl x ↦ inl (e.0 x) | inr y ↦ inr (f.0 y) ], elim [ inl x ↦ inl (e.1 x) | inr y ↦ inr (f.1 y) ])

pub iff_both : {A B C D : Type 0} → A ↔ C → B ↔ D → (A × B) ↔ (C × D)
iff_both e f = ((λ (x, y). (e.0 x, f.0 y)), (λ (x, y). (e.1 x, f.1 y)))

-- lists: P and Q have the same
abbrev pub Same : Lang → Lang → Type 0
Same P Q = (v : List Letter) → P v ↔ Q v

pub concat_same : {P P' Q Q' : Lang} → Same P P' → Same Q Q' → Same (Concat P Q) (Concat P' Q')
concat_same e f v = ((λ (u, w, d, x, y). (u, w, d, (e u).0 x, (f w).0 y)), (λ (u, w, d, x, y). (u, w, d, (e u).1 x, (f w).1 y)))

pub fusion_same : {P P' Q Q' : Lang} → Same P P' → Same Q Q' → Same (Fusion P Q) (Fusion P' Q')
fusion_same e f v = (
  (λ (u, l, w, d, x, y). (u, l, w, d, (e (u ++ (l ∷ []))).0 x, (f (l ∷ w)).0 y)),
  (λ (u, l, w, d, x, y). (u, l, w, d, (e (u ++ (l ∷ []))).1 x, (f (l ∷ w)).1 y)),
)

repeats_map : (P Q : Lang) → ((u : List Letter) → P u → Q u) → {v : List Letter} → Repeats P v → Repeats Q v
repeats_map P Q g done = done
repeats_map P Q g (more l u w e p q) = more l u w e (g (l ∷ u) p) (repeats_map P Q g q)

pub star_same : {P Q : Lang} → Same P Q → Same (Repeats P) (Repeats Q)
star_same {P} {Q} e v = (repeats_map P Q (λ u. (e u).0), repeats_map Q P (λ u. (e u).1))

-- words: S and R have the same
abbrev pub SameWords : (Word → Type 0) → (Word → Type 0) → Type 0
SameWords S R = (w : Word) → S w ↔ R w

-- r!, r, not, abort and |->
abbrev Starting : Lang → Word → Type 0
Starting P w = (j : ℕ) × Place w j × P (front w (suc j))

pub starts_same : {P Q : Lang} → Same P Q → SameWords (Starting P) (Starting Q)
starts_same e w = ((λ (j, p, m). (j, p, (e (front w (suc j))).0 m)), (λ (j, p, m). (j, p, (e (front w (suc j))).1 m)))

abbrev Weakly : Lang → Word → Type 0
Weakly P w = (j : ℕ) → Place w j → Starting P (with_tops (front w (suc j)))

pub weakly_same : {P Q : Lang} → Same P Q → SameWords (Weakly P) (Weakly Q)
weakly_same e w = (
  (λ s j p. (starts_same e (with_tops (front w (suc j)))).0 (s j p)),
  (λ s j p. (starts_same e (with_tops (front w (suc j)))).1 (s j p)),
)

pub negated_same : {S R : Word → Type 0} → SameWords S R → SameWords (λ w. S (mir w) → ⊥) (λ w. R (mir w) → ⊥)
negated_same e w = iff_neg (e (mir w))

abbrev Aborted : (Word → Type 0) → Condition → Word → Type 0
Aborted S b w = S w ⊎ ((j : ℕ) × Holds (seen w j) b × S (with_tops (front w j)))

pub abort_same : {S R : Word → Type 0} → SameWords S R → (b : Condition) → SameWords (Aborted S b) (Aborted R b)
abort_same e b w =
    iff_sum (e w) ((λ (j, h, s). (j, h, (e (with_tops (front w j))).0 s)), (λ (j, h, s). (j, h, (e (with_tops (front w j))).1 s)))

abbrev Implied : Lang → (Word → Type 0) → Word → Type 0
Implied P S w = (j : ℕ) → Place w j → P (front (mir w) (suc j)) → S (from w j)

pub implies_same : {P Q : Lang} {S R : Word → Type 0} → Same P Q → SameWords S R → SameWords (Implied P S) (Implied Q R)
implies_same e d w = (
  (λ s j p m. (d (from w j)).0 (s j p ((e (front (mir w) (suc j))).1 m))),
  (λ s j p m. (d (from w j)).1 (s j p ((e (front (mir w) (suc j))).0 m))),
)
