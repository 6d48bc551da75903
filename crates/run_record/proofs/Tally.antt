-- Rows that adds can have left: what they are worth, and that they stay so when a letter is added.
use Rattle.std.proofs.Common.{◌≡◌, ℕ, zero, suc, ◌+◌, ◌≤◌, min, Bool, true, false, cond, ◌&&◌, ◌||◌, eqb, ltb, List, [], ◌∷◌, ◌++◌, length, replicate, Some, None, Decides, Option, sym, refl, ap, ◌∙◌, ap₂, arith, length-append}
use lib.ListN.{length-replicate}
use Rattle.std.proofs.lemmas.Bool.{ne_eqb, le-ltb, ltb-false}
use Rattle.letter.specs.declared.full.Full.{Full}
use Rattle.letter.specs.declared.full.Full.TheVariants.{Top, Bottom, Ordinary}
use Rattle.letter.specs.Full.{same_full}
use Rattle.run_record.specs.declared.run.Run.{Run}
use Rattle.run_record.specs.Runs.{spread, continues, tally, stretches, last_letter, last_row, run_fits}

-- the row with one letter more
abbrev pub longer : {L : Type 0} → Run L → Run L
longer r = record { letter = r.letter; length = r.length + 1 }

never : {A : Type 0} → false ≡ true → A
never e = let no_way : ◌≡◌ {A = ℕ} 0 1 = cc in absurd (omega arith)

cond_some : {A : Type 0} (b : Bool) (y : Option A) (n : A) → cond b None y ≡ Some n → (b ≡ false) × (y ≡ Some n)
cond_some true y n e = let no_way : ◌≡◌ {A = ℕ} 0 1 = cc in absurd (omega arith)
cond_some false y n e = (refl, e)

same_some : {A : Type 0} (m n : A) → Some m ≡ Some n → m ≡ n
same_some m n e = cc

module _ {L : Type 0} (eq : L → L → Bool) where
  -- what a tally says of its first row
  record Parts (before : Option (Full L)) (sum : ℕ) (r : Run L) (rs : List (Run L)) (n : ℕ) : Type 0 where
    some : eqb r.length 0 ≡ false
    new : continues eq before r.letter ≡ false
    few : ltb 512 (sum + r.length) ≡ false
    tail : tally eq (Some r.letter) (sum + r.length) rs ≡ Some n

  parts : (before : Option (Full L)) (sum : ℕ) (r : Run L) (rs : List (Run L)) (n : ℕ) → tally eq before sum (r ∷ rs) ≡ Some n → Parts before sum r rs n
  parts before sum r rs n e =
      let a = cond_some (eqb r.length 0) _ n e in
      let b = cond_some (continues eq before r.letter) _ n a.1 in
      let c = cond_some (ltb 512 (sum + r.length)) _ n b.1 in
      record { some = a.0; new = b.0; few = c.0; tail = c.1 }

  whole : (before : Option (Full L)) (sum : ℕ) (r : Run L) (rs : List (Run L)) (n : ℕ) → Parts before sum r rs n → tally eq before sum (r ∷ rs) ≡ Some n
  whole before sum r rs n q = rw (q.some, q.new, q.few) q.tail

  -- the tally is the number of letters
  pub tally_count : (rs : List (Run L)) (before : Option (Full L)) (sum n : ℕ) → tally eq before sum rs ≡ Some n → n ≡ sum + length (spread rs)
  tally_count [] before sum n e = omega (arith, same_some sum n e)
  tally_count (r ∷ rs) before sum n e =
      let q = parts before sum r rs n e in
      let later = tally_count rs (Some r.letter) (sum + r.length) n q.tail in
      omega (arith, later, length-append (replicate r.length r.letter) (spread rs), length-replicate r.length r.letter)

  -- and at most 512
  pub tally_few : (rs : List (Run L)) (before : Option (Full L)) (sum n : ℕ) → sum ≤ 512 → tally eq before sum rs ≡ Some n → n ≤ 512
  tally_few [] before sum n h e = omega (arith, same_some sum n e)
  tally_few (r ∷ rs) before sum n h e =
      let q = parts before sum r rs n e in
      tally_few rs (Some r.letter) (sum + r.length) n (ltb-false _ _ q.few) q.tail

  -- a row of another letter
  pub tally_push : (rs : List (Run L)) (before : Option (Full L)) (sum n : ℕ) (r : Run L) → tally eq before sum rs ≡ Some n → (r.length ≡ 0 → ⊥)
      → continues eq (last_row before rs) r.letter ≡ false → n + r.length ≤ 512 → tally eq before sum (rs ++ (r ∷ [])) ≡ Some (n + r.length)
  tally_push [] before sum n r e some new few =
      let is = same_some sum n e in
      let le : sum + r.length ≤ 512 = omega arith in
      whole before sum r [] (n + r.length) (record { some = ne_eqb _ _ some; new = new; few = le-ltb _ _ le; tail = ap (λ m. Some (m + r.length)) is })
  tally_push (x ∷ rs) before sum n r e some new few =
      let q = parts before sum x rs n e in
      whole before sum x (rs ++ (r ∷ [])) (n + r.length)
      (record { some = q.some; new = q.new; few = q.few; tail = tally_push rs (Some x.letter) (sum + x.length) n r q.tail some new few })

  -- the last row made longer
  pub tally_longer : (rs : List (Run L)) (before : Option (Full L)) (sum n : ℕ) (r : Run L) → tally eq before sum (rs ++ (r ∷ [])) ≡ Some n → n + 1 ≤ 512
      → tally eq before sum (rs ++ (longer r ∷ [])) ≡ Some (n + 1)
  tally_longer [] before sum n r e few =
      let q = parts before sum r [] n e in
      let is = same_some (sum + r.length) n q.tail in
      let le : sum + (r.length + 1) ≤ 512 = omega arith in
      let up : sum + (r.length + 1) ≡ n + 1 = omega arith in
      let some : r.length + 1 ≡ 0 → ⊥ = λ h. omega arith in
      whole before sum (longer r) [] (n + 1) (record { some = ne_eqb _ _ some; new = q.new; few = le-ltb _ _ le; tail = ap Some up })
  tally_longer (x ∷ rs) before sum n r e few =
      let q = parts before sum x (rs ++ (r ∷ [])) n e in
      whole before sum x (rs ++ (longer r ∷ [])) (n + 1)
      (record { some = q.some; new = q.new; few = q.few; tail = tally_longer rs (Some x.letter) (sum + x.length) n r q.tail few })

  module _ (decided : (x y : L) → Decides (eq x y) (x ≡ y)) where
    itself : (x : Full L) → same_full eq x x ≡ true
    itself Top = refl
    itself Bottom = refl
    itself (Ordinary l) = (decided l l).1 refl

    -- a stretch that goes on counts no more, and ends in its letter
    goes_on : (k : ℕ) (x : Full L) (ys : List (Full L)) → stretches eq (Some x) (replicate k x ++ ys) ≡ stretches eq (Some x) ys
    goes_on zero x ys = refl
    goes_on (suc k) x ys =
        let rest = stretches eq (Some x) (replicate k x ++ ys) in
        ap (λ b. cond b rest (suc rest)) (itself x) ∙ goes_on k x ys

    goes_last : (k : ℕ) (x : Full L) (ys : List (Full L)) → last_letter (Some x) (replicate k x ++ ys) ≡ last_letter (Some x) ys
    goes_last zero x ys = refl
    goes_last (suc k) x ys = goes_last k x ys

    one_row : (before : Option (Full L)) (k : ℕ) (x : Full L) (ys : List (Full L)) → eqb k 0 ≡ false → continues eq before x ≡ false
        → (stretches eq before (replicate k x ++ ys) ≡ suc (stretches eq (Some x) ys)) × (last_letter before (replicate k x ++ ys) ≡ last_letter (Some x) ys)
    one_row before zero x ys some new = never (sym some)
    one_row before (suc k) x ys some new =
        let rest = stretches eq (Some x) (replicate k x ++ ys) in
        (ap (λ b. cond b rest (suc rest)) new ∙ ap suc (goes_on k x ys), goes_last k x ys)

    -- the rows are as many as the stretches of their letters, and end in the last letter
    pub rows_told : (rs : List (Run L)) (before : Option (Full L)) (sum n : ℕ) → tally eq before sum rs ≡ Some n
        → (stretches eq before (spread rs) ≡ length rs) × (last_letter before (spread rs) ≡ last_row before rs)
    rows_told [] before sum n e = (refl, refl)
    rows_told (r ∷ rs) before sum n e =
        let q = parts before sum r rs n e in
        let (many, ends) = one_row before r.length r.letter (spread rs) q.some q.new in
        let (later, last) = rows_told rs (Some r.letter) (sum + r.length) n q.tail in
        (many ∙ ap suc later, ends ∙ last)

    -- so what fits can be told from the rows
    pub fits_told : (rs : List (Run L)) (n all : ℕ) (x : Full L) → tally eq None 0 rs ≡ Some n
        → run_fits eq all (spread rs) x ≡ (ltb n 512 && (continues eq (last_row None rs) x || ltb (length rs) (min 64 all)))
    fits_told rs n all x e =
        let (many, last) = rows_told rs None 0 n e in
        let is : length (spread rs) ≡ n = omega (arith, tally_count rs None 0 n e) in
        ap (λ (k : ℕ). ltb k 512 && (continues eq (last_letter None (spread rs)) x || ltb (stretches eq None (spread rs)) (min 64 all))) is
        ∙ ap₂ (λ o (k : ℕ). ltb n 512 && (continues eq o x || ltb k (min 64 all))) last many

  -- letters that are the same are one value
  pub same_told : ((x y : L) → Decides (eq x y) (x ≡ y)) → (x y : Full L) → same_full eq x y ≡ true → x ≡ y
  same_told decided Top Top e = refl
  same_told decided Bottom Bottom e = refl
  same_told decided (Ordinary x) (Ordinary y) e = ap Ordinary ((decided x y).0 e)
  same_told decided Top Bottom e = never e
  same_told decided Top (Ordinary y) e = never e
  same_told decided Bottom Top e = never e
  same_told decided Bottom (Ordinary y) e = never e
  same_told decided (Ordinary x) Top e = never e
  same_told decided (Ordinary x) Bottom e = never e
