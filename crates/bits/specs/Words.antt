-- Sets of numbers as the bits of words.
use Rattle.std.specs.Prelude.{ℕ, ◌/◌, ◌%◌, ◌^◌, ◌<◌, Bool, List, ◌==◌, slice_index}

-- bit n of the number b
abbrev pub bit : ℕ → ℕ → Bool
bit b n = b / 2 ^ n % 2 == 1

-- is n in the set that the words of w bits are
unfoldable pub in_words : ℕ → List ℕ → ℕ → Bool
in_words w ws n = bit (slice_index ws (n / w)) (n % w)

-- each word is what R allows to be made of those of two sets at its place
abbrev pub EachMadeBy : (ℕ → ℕ → ℕ → Type 0) → List ℕ → List ℕ → List ℕ → Type 0
EachMadeBy R xs ys zs = (k : ℕ) → k < 9 → R (slice_index xs k) (slice_index ys k) (slice_index zs k)
