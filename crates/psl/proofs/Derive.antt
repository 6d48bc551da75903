-- What a set of lists goes on with after a letter: the states that the letter leads to, and what each goes on with.
use Rattle.std.proofs.Common.{Bool, true, ◌&&◌, ◌||◌, T, ◌⊎◌, ◌↔◌, List, [], ◌∷◌, ◌++◌, inl, inr}
use Rattle.psl.specs.Letter.{Letter}
use Rattle.psl.specs.Clocked.{Repeats}
use Rattle.psl.specs.Automaton.{into, on_left, on_right}
use Rattle.psl.specs.Evaluation.{first}
use Rattle.psl.proofs.Languages.{Lang, after, Concat, Fusion, concat_out, concat_skip, concat_cons, fusion_out, fusion_here, fusion_cons, star_out}
use Rattle.psl.proofs.Languages.{star_in}
use Rattle.psl.proofs.Tests.{and_in, and_out, or_left, or_right, or_out}

abbrev pub Derives : {S : Type 0} → Lang → Letter → (S → Bool) → (S → Lang) → Type 0
Derives {S} L l g R = (v : List Letter) → (L (l ∷ v)) ↔ ((q : S) × T (g q) × R q v)

abbrev pub sum_rest : {A B : Type 0} → (A → Lang) → (B → Lang) → A ⊎ B → Lang
sum_rest F G (inl p) = F p
sum_rest F G (inr q) = G q

module _ {A B : Type 0} (l : Letter) where
  pub left_derives : (L : Lang) (g : A → Bool) (R : A → Lang) (G : B → Lang) → Derives L l g R → Derives L l (on_left {B = B} g) (sum_rest R G)
  left_derives L g R G d v = (λ x. let y = (d v).0 x in (inl y.0, y.1, y.2), λ t. back t.0 t.1 t.2)
    where
      back : (q : A ⊎ B) → T (on_left g q) → sum_rest R G q v → L (l ∷ v)
      back (inl p) x y = (d v).1 (p, x, y)
      back (inr q) x y = absurd x

  pub right_derives : (K : Lang) (h : B → Bool) (F : A → Lang) (Q : B → Lang) → Derives K l h Q → Derives K l (on_right {A = A} h) (sum_rest F Q)
  right_derives K h F Q d v = (λ x. let y = (d v).0 x in (inr y.0, y.1, y.2), λ t. back t.0 t.1 t.2)
    where
      back : (q : A ⊎ B) → T (on_right h q) → sum_rest F Q q v → K (l ∷ v)
      back (inl p) x y = absurd x
      back (inr q) x y = (d v).1 (q, x, y)

module _ {A B : Type 0} (l : Letter) (L K : Lang) (g : A → Bool) (h : B → Bool) (R : A → Lang) (Q : B → Lang)
    (first : Derives L l g R) (second : Derives K l h Q) where
  pub either_derives : Derives (λ v. L v ⊎ K v) l (into true g h) (sum_rest R Q)
  either_derives v = (there, λ t. back t.0 t.1 t.2)
    where
      there : L (l ∷ v) ⊎ K (l ∷ v) → (q : A ⊎ B) × T (into true g h q) × sum_rest R Q q v
      there (inl x) = let y = (first v).0 x in (inl y.0, y.1, y.2)
      there (inr x) = let y = (second v).0 x in (inr y.0, y.1, y.2)

      back : (q : A ⊎ B) → T (into true g h q) → sum_rest R Q q v → L (l ∷ v) ⊎ K (l ∷ v)
      back (inl p) x y = inl ((first v).1 (p, x, y))
      back (inr q) x y = inr ((second v).1 (q, x, y))

  pub both_derives : Derives (λ v. L v × K v) l (λ (q : A × B). g q.0 && h q.1) (λ q v. R q.0 v × Q q.1 v)
  both_derives v = (
    λ t. let x = (first v).0 t.0 in let y = (second v).0 t.1 in ((x.0, y.0), and_in (g x.0) (h y.0) x.1 y.1, (x.2, y.2)),
    λ t. let o = and_out (g t.0.0) (h t.0.1) t.1 in ((first v).1 (t.0.0, o.0, t.2.0), (second v).1 (t.0.1, o.1, t.2.1)),
  )

  pub concat_derives : (f : Bool) → L [] ↔ T f → Derives (Concat L K) l (into f g h) (sum_rest (λ p. Concat (R p) K) Q)
  concat_derives f n v = (λ t. there (concat_out L K l v t), λ t. back t.0 t.1 t.2)
    where
      there : (L [] × K (l ∷ v)) ⊎ Concat (after l L) K v → (q : A ⊎ B) × T (into f g h q) × sum_rest (λ p. Concat (R p) K) Q q v
      there (inl x) = let y = (second v).0 x.1 in (inr y.0, and_in f (h y.0) (n.0 x.0) y.1, y.2)
      there (inr x) = let y = (first x.0).0 x.3 in (inl y.0, y.1, (x.0, x.1, x.2, y.2, x.4))

      back : (q : A ⊎ B) → T (into f g h q) → sum_rest (λ p. Concat (R p) K) Q q v → Concat L K (l ∷ v)
      back (inl p) x y = concat_cons L K l v (y.0, y.1, y.2, (first y.0).1 (p, x, y.3), y.4)
      back (inr q) x y = let o = and_out f (h q) x in concat_skip L K l v (n.1 o.0) ((second v).1 (q, o.1, y))

  pub fusion_derives : (f : Bool) → L (l ∷ []) ↔ T f → Derives (Fusion L K) l (into f g h) (sum_rest (λ p. Fusion (R p) K) Q)
  fusion_derives f n v = (λ t. there (fusion_out L K l v t), λ t. back t.0 t.1 t.2)
    where
      there : (L (l ∷ []) × K (l ∷ v)) ⊎ Fusion (after l L) K v → (q : A ⊎ B) × T (into f g h q) × sum_rest (λ p. Fusion (R p) K) Q q v
      there (inl x) = let y = (second v).0 x.1 in (inr y.0, and_in f (h y.0) (n.0 x.0) y.1, y.2)
      there (inr x) = let y = (first (x.0 ++ (x.1 ∷ []))).0 x.4 in (inl y.0, y.1, (x.0, x.1, x.2, x.3, y.2, x.5))

      back : (q : A ⊎ B) → T (into f g h q) → sum_rest (λ p. Fusion (R p) K) Q q v → Fusion L K (l ∷ v)
      back (inl p) x y = fusion_cons L K l v (y.0, y.1, y.2, y.3, (first (y.0 ++ (y.1 ∷ []))).1 (p, x, y.4), y.5)
      back (inr q) x y = let o = and_out f (h q) x in fusion_here L K l v (n.1 o.0) ((second v).1 (q, o.1, y))

module _ {A : Type 0} (l : Letter) (g : A → Bool) (R : A → Lang) where
  pub star_derives : (P : Lang) → Derives P l g R → Derives (Repeats P) l g (λ q. Concat (R q) (Repeats P))
  star_derives P d v = (
    λ t. let x = star_out P l v t in let y = (d x.0).0 x.3 in (y.0, y.1, (x.0, x.1, x.2, y.2, x.4)),
    λ t. let x = t.2 in star_in P l v (x.0, x.1, x.2, (d x.0).1 (t.0, t.1, x.3), x.4),
  )

  pub again_derives : (L K : Lang) (h : A → Bool) (f : Bool) → Derives L l g R → Derives K l h (λ q. Concat (R q) K) → L [] ↔ T f
      → Derives (Concat L K) l (λ q. g q || (f && h q)) (λ q. Concat (R q) K)
  again_derives L K h f first second n v = (λ t. there (concat_out L K l v t), λ t. back t.0 (or_out (g t.0) (f && h t.0) t.1) t.2)
    where
      there : (L [] × K (l ∷ v)) ⊎ Concat (after l L) K v → (q : A) × T (g q || (f && h q)) × Concat (R q) K v
      there (inl x) = let y = (second v).0 x.1 in (y.0, or_right (g y.0) (f && h y.0) (and_in f (h y.0) (n.0 x.0) y.1), y.2)
      there (inr x) = let y = (first x.0).0 x.3 in (y.0, or_left (g y.0) (f && h y.0) y.1, (x.0, x.1, x.2, y.2, x.4))

      back : (q : A) → T (g q) ⊎ T (f && h q) → Concat (R q) K v → Concat L K (l ∷ v)
      back q (inl x) y = concat_cons L K l v (y.0, y.1, y.2, (first y.0).1 (q, x, y.3), y.4)
      back q (inr x) y = let o = and_out f (h q) x in concat_skip L K l v (n.1 o.0) ((second v).1 (q, o.1, y))
