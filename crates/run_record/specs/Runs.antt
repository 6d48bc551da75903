-- What the rows of the run record mean.
use Rattle.std.specs.Prelude.{◌≡◌, ℕ, suc, ◌+◌, min, Bool, true, false, cond, ◌&&◌, ◌||◌, List, [], ◌∷◌, ◌++◌, length, take, replicate, Some, None, Option, ◌==◌, nat_lt}
use Rattle.letter.specs.declared.full.Full.{Full}
use Rattle.letter.specs.Full.{same_full}
use Rattle.run_record.specs.declared.run.Run.{Run}
use Rattle.record.specs.Recorded.{Recorded}

-- the letters of rows: each row's letter as often as its length says
abbrev pub spread : {L : Type 0} → List (Run L) → List (Full L)
spread [] = []
spread (r ∷ rs) = replicate r.length r.letter ++ spread rs

-- whether x is the same as the letter before it
abbrev pub continues : {L : Type 0} → (L → L → Bool) → Option (Full L) → Full L → Bool
continues equals None x = false
continues equals (Some y) x = same_full equals y x

-- How many letters the rows are, after `sum` letters that end in `before`, if adds can have left them:
-- no length is 0, no two same letters stand side by side, and there are at most 512 letters.
abbrev pub tally : {L : Type 0} → (L → L → Bool) → Option (Full L) → ℕ → List (Run L) → Option ℕ
tally equals before sum [] = Some sum
tally equals before sum (r ∷ rs) =
    cond (r.length == 0) None
    (cond (continues equals before r.letter) None
    (cond (nat_lt 512 (sum + r.length)) None (tally equals (Some r.letter) (sum + r.length) rs)))

-- rows that adds cannot have left do not count
abbrev pub kept : {L : Type 0} → Option ℕ → List (Run L) → List (Run L)
kept (Some n) rs = rs
kept None rs = []

abbrev pub counted : {L : Type 0} → (L → L → Bool) → List (Run L) → List (Run L)
counted equals rs = kept (tally equals None 0 rs) rs

-- the number of stretches of same letters, after the letter `before`
abbrev pub stretches : {L : Type 0} → (L → L → Bool) → Option (Full L) → List (Full L) → ℕ
stretches equals before [] = 0
stretches equals before (x ∷ xs) = cond (continues equals before x) (stretches equals (Some x) xs) (suc (stretches equals (Some x) xs))

abbrev pub last_letter : {L : Type 0} → Option (Full L) → List (Full L) → Option (Full L)
last_letter before [] = before
last_letter before (x ∷ xs) = last_letter (Some x) xs

-- after fewer than 512 letters one more fits if it goes on with the last stretch, or if a row is left for a new one; rows after the first 64 are not used
abbrev pub run_fits : {L : Type 0} → (L → L → Bool) → ℕ → List (Full L) → Full L → Bool
run_fits equals rows letters x =
    nat_lt (length letters) 512 && (continues equals (last_letter None letters) x || nat_lt (stretches equals None letters) (min 64 rows))

-- the letters of the first `used` rows, cut to the rows there are and to 64
abbrev pub run_content : {L : Type 0} → (L → L → Bool) → ℕ → List (Run L) → Recorded (Full L)
run_content equals used rows = record { letters = spread (counted equals (take (min used 64) rows)); fits = run_fits equals (length rows) }

-- the letter of the last row, after the letter `before`
abbrev pub last_row : {L : Type 0} → Option (Full L) → List (Run L) → Option (Full L)
last_row before [] = before
last_row before (r ∷ rs) = last_row (Some r.letter) rs

-- One letter more in the first `used` rows: it does not fit and nothing has changed, or it stands at the end of the letters of the rows now in use.
abbrev pub Pushes : {L : Type 0} → (L → L → Bool) → ℕ → Full L → List (Run L) → Option ℕ → List (Run L) → Type 0
Pushes equals used x before None after = (run_fits equals (length before) (spread (take used before)) x ≡ false) × (after ≡ before)
Pushes equals used x before (Some in_use) after =
    (run_fits equals (length before) (spread (take used before)) x ≡ true)
    × (spread (counted equals (take (min in_use 64) after)) ≡ spread (take used before) ++ (x ∷ []))
