-- What one letter more does to the rows that count.
use Rattle.std.proofs.Common.{◌≡◌, ℕ, ◌+◌, ◌-◌, ◌<◌, ◌≤◌, min, Bool, true, false, List, [], ◌∷◌, ◌++◌, length, get_or, take, set, replicate, Some, None, Option, sym, refl, ap, ◌∙◌, append_assoc, append-nil, arith, length-append, rules}
use lib.ListN.{length-replicate}
use Rattle.std.proofs.lemmas.List.{take_more, take_more_set, replicate_more}
use Rattle.letter.specs.declared.full.Full.{Full}
use Rattle.run_record.specs.declared.run.Run.{Run}
use Rattle.run_record.specs.Runs.{spread, continues, tally, kept, counted, last_row}
use Rattle.run_record.proofs.Tally.{longer, tally_count, tally_push, tally_longer}

spread_push : {L : Type 0} (rs : List (Run L)) (r : Run L) → spread (rs ++ (r ∷ [])) ≡ spread rs ++ replicate r.length r.letter
spread_push [] r = append-nil _
spread_push (x ∷ rs) r =
    ap (λ ys. replicate x.length x.letter ++ ys) (spread_push rs r)
    ∙ sym (append_assoc (replicate x.length x.letter) (spread rs) (replicate r.length r.letter))

spread_longer : {L : Type 0} (rs : List (Run L)) (r : Run L) → spread (rs ++ (longer r ∷ [])) ≡ spread (rs ++ (r ∷ [])) ++ (r.letter ∷ [])
spread_longer rs r =
    spread_push rs (longer r)
    ∙ ap (λ ys. spread rs ++ ys) (sym (replicate_more r.length r.letter))
    ∙ sym (append_assoc (spread rs) (replicate r.length r.letter) (r.letter ∷ []))
    ∙ ap (λ ys. ys ++ (r.letter ∷ [])) (sym (spread_push rs r))

last_row_push : {L : Type 0} (rs : List (Run L)) (before : Option (Full L)) (r : Run L) → last_row before (rs ++ (r ∷ [])) ≡ Some r.letter
last_row_push [] before r = refl
last_row_push (x ∷ rs) before r = last_row_push rs (Some x.letter) r

-- the first rows are those before the last of them, and the last
front : {X : Type 0} (rows : List X) (m : ℕ) (r : X) → 0 < m → m ≤ length rows → r ≡ get_or rows (m - 1) r → take m rows ≡ take (m - 1) rows ++ (r ∷ [])
front rows m r some within is =
    let up : m ≡ (m - 1) + 1 = omega arith in
    ap (λ k. take k rows) up ∙ take_more rows (m - 1) r (omega arith) ∙ ap (λ x. take (m - 1) rows ++ (x ∷ [])) (sym is)

pub last_row_at : {L : Type 0} (rows : List (Run L)) (m : ℕ) (r : Run L) → 0 < m → m ≤ length rows → r ≡ get_or rows (m - 1) r
    → last_row None (take m rows) ≡ Some r.letter
last_row_at rows m r some within is = ap (last_row None) (front rows m r some within is) ∙ last_row_push (take (m - 1) rows) None r

module _ {L : Type 0} (eq : L → L → Bool) (rows : List (Run L)) (m n : ℕ) (within : m ≤ length rows) (sound : tally eq None 0 (take m rows) ≡ Some n) where
  -- a stretch that follows nothing is not there
  pub some_row : (x : Full L) → continues eq (last_row None (take m rows)) x ≡ true → 0 < m
  some_row x e = search rules

  -- no stretch is longer than the letters are many
  pub length_fits : (r : Run L) → 0 < m → r ≡ get_or rows (m - 1) r → r.length ≤ n
  length_fits r some is =
      let all : length (spread (take m rows)) ≡ length (spread (take (m - 1) rows) ++ replicate r.length r.letter) =
      ap (λ xs. length (spread xs)) (front rows m r some within is) ∙ ap length (spread_push (take (m - 1) rows) r) in
      omega (arith, tally_count eq (take m rows) None 0 n sound, all, length-append (spread (take (m - 1) rows)) (replicate r.length r.letter), length-replicate r.length r.letter)

  -- the last stretch one longer
  pub longer_letters : (r : Run L) (x : Full L) → 0 < m → m ≤ 64 → n < 512 → r ≡ get_or rows (m - 1) r → r.letter ≡ x
      → spread (counted eq (take (min m 64) (set rows (m - 1) (longer r)))) ≡ spread (take m rows) ++ (x ∷ [])
  longer_letters r x some few less is same =
      let rs = take (m - 1) rows in
      let up : min m 64 ≡ (m - 1) + 1 = omega arith in
      let made : take (min m 64) (set rows (m - 1) (longer r)) ≡ rs ++ (longer r ∷ []) =
      ap (λ k. take k (set rows (m - 1) (longer r))) up ∙ take_more_set rows (m - 1) (longer r) (omega arith) in
      let old : tally eq None 0 (rs ++ (r ∷ [])) ≡ Some n = ap (tally eq None 0) (sym (front rows m r some within is)) ∙ sound in
      let new : tally eq None 0 (rs ++ (longer r ∷ [])) ≡ Some (n + 1) = tally_longer eq rs None 0 n r old (omega arith) in
      ap (λ xs. spread (counted eq xs)) made
      ∙ ap (λ o. spread (kept o (rs ++ (longer r ∷ [])))) new
      ∙ spread_longer rs r
      ∙ ap (λ xs. spread xs ++ (r.letter ∷ [])) (sym (front rows m r some within is))
      ∙ ap (λ y. spread (take m rows) ++ (y ∷ [])) same

  -- a stretch of its own
  pub pushed_letters : (x : Full L) → m < 64 → m < length rows → n < 512 → continues eq (last_row None (take m rows)) x ≡ false
      → spread (counted eq (take (min (m + 1) 64) (set rows m (record { letter = x; length = 1 })))) ≡ spread (take m rows) ++ (x ∷ [])
  pushed_letters x few free less other =
      let r : Run L = record { letter = x; length = 1 } in
      let rs = take m rows in
      let up : min (m + 1) 64 ≡ m + 1 = omega arith in
      let made : take (min (m + 1) 64) (set rows m r) ≡ rs ++ (r ∷ []) = ap (λ k. take k (set rows m r)) up ∙ take_more_set rows m r free in
      let some : ◌≡◌ {A = ℕ} 1 0 → ⊥ = λ h. omega arith in
      let new : tally eq None 0 (rs ++ (r ∷ [])) ≡ Some (n + 1) = tally_push eq rs None 0 n r sound some other (omega arith) in
      ap (λ xs. spread (counted eq xs)) made ∙ ap (λ o. spread (kept o (rs ++ (r ∷ [])))) new ∙ spread_push rs r
