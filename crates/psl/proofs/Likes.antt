-- Lists whose letters and mirrors satisfy the same conditions by name.
use Rattle.std.proofs.Common.{◌≡◌, ℕ, zero, suc, Bool, true, false, cond as if, not, ◌||◌, T, List, [], ◌∷◌, map, length, take, drop, sym, refl, ap, ◌∙◌, subst, ap₂}
use Rattle.psl.specs.Syntax.{Condition, truth, falsity, atom, negation, conjunction}
use Rattle.psl.specs.Letter.{Letter, mirror, satisfies}
use Rattle.psl.specs.Word.{Tail, tops, behead}
use Rattle.psl.specs.Automaton.{run_of_tops}
use Rattle.psl.specs.Evaluation.{is_nil, first, cut, cut_tail, some_below}
use Rattle.psl.specs.Named.{filled, Like, Likes}
use Rattle.psl.proofs.Mirrors.{satisfies_negation, mirror_twice}

pub likes_sym : (f g : ℕ → Condition) (u v : List Letter) → Likes f g u v → Likes g f v u
likes_sym f g [] [] h = tt
likes_sym f g [] (m ∷ v) h = absurd h
likes_sym f g (l ∷ u) [] h = absurd h
likes_sym f g (l ∷ u) (m ∷ v) h = (λ n. (sym (h.0 n).0, sym (h.0 n).1), likes_sym f g u v h.1)

module _ (f g : ℕ → Condition) where
  pub like_filled : (l m : Letter) (b : Condition) → Like f g l m → satisfies l (filled f b) ≡ satisfies m (filled g b)
  like_filled l m truth h = (h 0).0
  like_filled l m falsity h = (h 0).0
  like_filled l m (atom n) h = (h n).0
  like_filled l m (negation b) h = (h 0).0
  like_filled l m (conjunction b c) h = (h 0).0

  pub like_mirror : (l m : Letter) → Like f g l m → Like f g (mirror l) (mirror m)
  like_mirror l m h n = ((h n).1, ap (λ (x : Letter). satisfies x (f n)) (mirror_twice l) ∙ (h n).0 ∙ sym (ap (λ (x : Letter). satisfies x (g n)) (mirror_twice m)))

  pub like_negated : (l m : Letter) (b : Condition) → Like f g l m → satisfies l (negation (filled f b)) ≡ satisfies m (negation (filled g b))
  like_negated l m b h =
      satisfies_negation l (filled f b) ∙ ap not (like_filled (mirror l) (mirror m) b (like_mirror l m h)) ∙ sym (satisfies_negation m (filled g b))

  pub likes_mirror : (u v : List Letter) → Likes f g u v → Likes f g (map mirror u) (map mirror v)
  likes_mirror [] [] h = tt
  likes_mirror [] (m ∷ v) h = absurd h
  likes_mirror (l ∷ u) [] h = absurd h
  likes_mirror (l ∷ u) (m ∷ v) h = (like_mirror l m h.0, likes_mirror u v h.1)

  pub likes_behead : (u v : List Letter) → Likes f g u v → Likes f g (behead u) (behead v)
  likes_behead [] [] h = tt
  likes_behead [] (m ∷ v) h = absurd h
  likes_behead (l ∷ u) [] h = absurd h
  likes_behead (l ∷ u) (m ∷ v) h = h.1

  pub likes_length : (u v : List Letter) → Likes f g u v → length u ≡ length v
  likes_length [] [] h = refl
  likes_length [] (m ∷ v) h = absurd h
  likes_length (l ∷ u) [] h = absurd h
  likes_length (l ∷ u) (m ∷ v) h = ap suc (likes_length u v h.1)

  pub likes_take : (j : ℕ) (u v : List Letter) → Likes f g u v → Likes f g (take j u) (take j v)
  likes_take zero u v h = tt
  likes_take (suc j) [] [] h = tt
  likes_take (suc j) [] (m ∷ v) h = absurd h
  likes_take (suc j) (l ∷ u) [] h = absurd h
  likes_take (suc j) (l ∷ u) (m ∷ v) h = (h.0, likes_take j u v h.1)

  pub likes_drop : (j : ℕ) (u v : List Letter) → Likes f g u v → Likes f g (drop j u) (drop j v)
  likes_drop zero u v h = h
  likes_drop (suc j) [] [] h = tt
  likes_drop (suc j) [] (m ∷ v) h = absurd h
  likes_drop (suc j) (l ∷ u) [] h = absurd h
  likes_drop (suc j) (l ∷ u) (m ∷ v) h = likes_drop j u v h.1

  pub likes_tops : (n : ℕ) → Likes f g (run_of_tops n) (run_of_tops n)
  likes_tops zero = tt
  likes_tops (suc n) = (λ n. (refl, refl), likes_tops n)

  pub first_like : (b : Condition) (t : Tail) (u v : List Letter) → Likes f g u v → first (filled f b) t u ≡ first (filled g b) t v
  first_like b t [] [] h = refl
  first_like b t [] (m ∷ v) h = absurd h
  first_like b t (l ∷ u) [] h = absurd h
  first_like b t (l ∷ u) (m ∷ v) h = like_filled l m b h.0

  pub cut_like : (b : Condition) (t : Tail) (u v : List Letter) → Likes f g u v
      → Likes f g (cut (filled f b) u) (cut (filled g b) v) × (cut_tail (filled f b) u t ≡ cut_tail (filled g b) v t)
  cut_like b t [] [] h = (tt, refl)
  cut_like b t [] (m ∷ v) h = absurd h
  cut_like b t (l ∷ u) [] h = absurd h
  cut_like b t (l ∷ u) (m ∷ v) h = one (satisfies l (filled f b)) (satisfies m (filled g b)) (like_filled l m b h.0) (cut_like b t u v h.1)
    where
      one : (x y : Bool) → x ≡ y → Likes f g (cut (filled f b) u) (cut (filled g b) v) × (cut_tail (filled f b) u t ≡ cut_tail (filled g b) v t)
          → Likes f g (if x [] (l ∷ cut (filled f b) u)) (if y [] (m ∷ cut (filled g b) v)) ×
          (if x tops (cut_tail (filled f b) u t) ≡ if y tops (cut_tail (filled g b) v t))
      one true true e k = (tt, refl)
      one true false e k = absurd (subst T e tt)
      one false true e k = absurd (subst T (sym e) tt)
      one false false e k = ((h.0, k.0), k.1)

pub some_below_alike : (m n : ℕ) (P Q : ℕ → Bool) → m ≡ n → ((j : ℕ) → P j ≡ Q j) → some_below m P ≡ some_below n Q
some_below_alike m n P Q e h = go m ∙ ap (λ (k : ℕ). some_below k Q) e
  where
    go : (m : ℕ) → some_below m P ≡ some_below m Q
    go zero = refl
    go (suc m) = ap₂ ◌||◌ (go m) (h m)

pub nil_like : (f g : ℕ → Condition) (u v : List Letter) → Likes f g u v → is_nil u ≡ is_nil v
nil_like f g [] [] h = refl
nil_like f g [] (m ∷ v) h = absurd h
nil_like f g (l ∷ u) [] h = absurd h
nil_like f g (l ∷ u) (m ∷ v) h = refl
