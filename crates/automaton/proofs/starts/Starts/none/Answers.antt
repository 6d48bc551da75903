use Rattle.std.proofs.Common.{◌≡◌, ℕ, zero, suc, ◌%◌, false, replicate, get_or}
use Rattle.bits.specs.declared.places.Places.{Places}
use Rattle.bits.specs.Member.{member}
use Rattle.bits.specs.Words.{in_words}
use Rattle.bits.proofs.Bitwise.{bit_zero}
use Rattle.automaton.specs.Views.{bare}
use Rattle.automaton.proofs.starts.Starts.none.Goals as goal

-- what stands where there is no set has no member
in_bare : (x : ℕ) → member bare x ≡ false
unfolding in_words
in_bare x = bit_zero (x % 64)

-- no set has a member
bare_all : (e : Places) → ((x : ℕ) → member e x ≡ false) → (n j x : ℕ) → member (get_or (replicate n e) j bare) x ≡ false
bare_all e h zero j x = in_bare x
bare_all e h (suc n) zero x = h x
bare_all e h (suc n) (suc j) x = bare_all e h n j x

pub returns : goal.returns
returns c = record { items = bare_all c.none-none.result c.none-none.ensures.items 240 }
