-- That each entry of a table names what it may.
use Rattle.std.specs.Prelude.{◌≡◌, ℕ, ◌<◌, Bool, true, List, length, slice_index_or}

-- each entry names what it may
abbrev pub AllNamed : {E : Type 0} → (ℕ → E → Bool) → E → List E → Type 0
AllNamed names first es = (k : ℕ) → k < length es → names k (slice_index_or es k first) ≡ true
