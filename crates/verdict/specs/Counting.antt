-- How many matches a sequence has, and at how many places they end.
use Rattle.std.specs.Prelude.{List, [], ◌∷◌, ◌⊎◌, ◌↔◌, ◌≡◌, ℕ, suc, ◌-◌, ◌<◌, ◌≤◌, length, take, drop}
use Rattle.psl.specs.Syntax.{Condition, Sequence}
use Rattle.psl.specs.Letter.{Letter}
use Rattle.psl.specs.Clocked.{Matches}

-- a is in the list
abbrev pub In : {A : Type 0} → A → List A → Type 0
In a [] = ⊥
In a (b ∷ bs) = (a ≡ b) ⊎ In a bs

-- nothing is in the list twice
abbrev pub Distinct : {A : Type 0} → List A → Type 0
Distinct [] = Unit {0}
Distinct (a ∷ rest) = (In a rest → ⊥) × Distinct rest

-- there are exactly n things with the property P: those of a list of length n in which nothing is twice
pub record NumberOf {A : Type 0} (P : A → Type 0) (n : ℕ) : Type 0 where
  pub all : List A
  pub distinct : Distinct all
  pub exactly : (a : A) → In a all ↔ P a
  pub counted : length all ≡ n

-- two places, the first at most the second
pub record Stretch : Type 0 where
  pub from : ℕ
  pub to : ℕ

-- the letters from one place to another, both included, match the sequence r under the clock c
pub record Match (c : Condition) (r : Sequence) (v : List Letter) (s : Stretch) : Type 0 where
  pub order : s.from ≤ s.to
  pub there : s.to < length v
  pub matches : Matches c r (take (suc s.to - s.from) (drop s.from v))

-- some match ends at the place
abbrev pub EndsMatch : Condition → Sequence → List Letter → ℕ → Type 0
EndsMatch c r v j = (i : ℕ) × Match c r v (record { from = i; to = j })

-- m is the number of the matches, and n that of the places where one ends
pub record MatchCounts (c : Condition) (r : Sequence) (v : List Letter) (m n : ℕ) : Type 0 where
  pub matches : NumberOf (Match c r v) m
  pub ends : NumberOf (EndsMatch c r v) n
