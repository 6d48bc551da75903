-- The letters of a record, read place after place.
use Rattle.std.proofs.Common.{◌≡◌, ℕ, ◌+◌, ◌<◌, List, [], ◌∷◌, ◌++◌, map, length, get_or, take, Some, sym, ap, ◌∙◌, subst, ap₂, zero-add, add-one, arith}
use Rattle.std.specs.List.{slice_get}
use Rattle.std.proofs.lemmas.List.{take_more, map_push}
use Rattle.std.proofs.lemmas.Option.{slice_get-get_or}
use Rattle.psl.specs.Letter.{Letter}
use Rattle.psl.specs.Named.{Like, Likes}
use Rattle.psl.specs.Syntax.{Condition, atom}
use Rattle.psl.proofs.Pairwise.{pairwise_join}
use Rattle.truth.specs.Rows.{row_at, letter_of, word}
use Rattle.truth.proofs.Places.{word_push, word_same}

nth_take : {X : Type 0} (xs : List X) (i : ℕ) (x : X) → i < length xs → slice_get xs i ≡ Some x → take (i + 1) xs ≡ take i xs ++ (x ∷ [])
nth_take xs i x h e =
    let d = slice_get-get_or xs i x h in
    let is : get_or xs i x ≡ x = cc in
    take_more xs i x h ∙ ap (λ y. take i xs ++ (y ∷ [])) is

module _ (f : ℕ → Condition) {X : Type 0} (m : X → Letter) (xs : List X) where
  -- one letter more, with the rows before it kept
  pub likes_more : (u v u' v' : List ℕ) (k : ℕ) (x : X) → k < length xs → slice_get xs k ≡ Some x
      → ((j : ℕ) → j < k → row_at u' j ≡ row_at u j) → ((j : ℕ) → j < k → row_at v' j ≡ row_at v j)
      → Like atom f (letter_of (row_at u' k) (row_at v' k)) (m x)
      → Likes atom f (word u v 0 k) (map m (take k xs)) → Likes atom f (word u' v' 0 (k + 1)) (map m (take (k + 1) xs))
  likes_more u v u' v' k x h at same other like likes =
      let last = letter_of (row_at u' k) (row_at v' k) in
      let front : word u' v' 0 k ≡ word u v 0 k = word_same u v u' v' 0 k (λ j h. same j (omega arith)) (λ j h. other j (omega arith)) in
      let longer : word u' v' 0 (k + 1) ≡ word u v 0 k ++ (last ∷ []) =
      ap (word u' v' 0) (add-one k)
      ∙ word_push u' v' 0 k
      ∙ ap₂ (λ w (j : ℕ). w ++ (letter_of (row_at u' j) (row_at v' j) ∷ [])) front (zero-add k) in
      let mapped : map m (take (k + 1) xs) ≡ map m (take k xs) ++ (m x ∷ []) = ap (map m) (nth_take xs k x h at) ∙ map_push m (take k xs) x in
      subst (λ w. Likes atom f w (map m (take (k + 1) xs))) (sym longer)
      (subst (Likes atom f (word u v 0 k ++ (last ∷ []))) (sym mapped) (pairwise_join (Like atom f) (word u v 0 k) (map m (take k xs)) (last ∷ []) (m x ∷ []) likes (like, tt)))
