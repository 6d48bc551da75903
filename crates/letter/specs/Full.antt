-- Full letters: top, bottom or ordinary.
use Rattle.std.specs.Prelude.{ℕ, Bool, true, false}
use Rattle.psl.specs.Letter.{Letter, top as all, bottom as nothing}
use Rattle.letter.specs.Meaning.{meaning}
use Rattle.letter.specs.declared.full.Tag.{Tag}
use Rattle.letter.specs.declared.full.Tag.TheVariants as t
use Rattle.letter.specs.declared.full.Full.{Full}
use Rattle.letter.specs.declared.full.Full.TheVariants.{Top, Bottom, Ordinary}

-- the letter of a tag and an ordinary letter, which counts only under the tag Ordinary
abbrev pub full : {L : Type 0} → Tag → L → Full L
full t.Top l = Top
full t.Bottom l = Bottom
full t.Ordinary l = Ordinary l

-- what a full letter means
abbrev pub means : {L : Type 0} → (L → ℕ → Bool) → (L → L) → Full L → Letter
means atoms mirrored Top = all
means atoms mirrored Bottom = nothing
means atoms mirrored (Ordinary l) = meaning atoms mirrored l

-- two letters are the same
abbrev pub same_full : {L : Type 0} → (L → L → Bool) → Full L → Full L → Bool
same_full equals Top Top = true
same_full equals Top Bottom = false
same_full equals Top (Ordinary y) = false
same_full equals Bottom Top = false
same_full equals Bottom Bottom = true
same_full equals Bottom (Ordinary y) = false
same_full equals (Ordinary x) Top = false
same_full equals (Ordinary x) Bottom = false
same_full equals (Ordinary x) (Ordinary y) = equals x y
