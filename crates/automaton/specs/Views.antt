-- Sets of starts, one for each state, and where the states of a part stand among them.
use Rattle.std.specs.Prelude.{◌≡◌, ℕ, ◌+◌, ◌*◌, ◌<◌, ◌≤◌, Bool, ◌&&◌, List, [], ◌≢◌, slice_index_or}
use Rattle.bits.specs.declared.places.Places.{Places}
use Rattle.bits.specs.Member.{member}
use Rattle.psl.specs.Syntax.{Sequence}
use Rattle.psl.specs.Letter.{Letter}
use Rattle.psl.specs.Automaton.{State, states, any, live}
use Rattle.psl.specs.Numbered.{number}
use Rattle.psl.specs.OptionalClock.{Clock}
use Rattle.automaton.specs.declared.view.View.{View}
use Rattle.automaton.specs.Moves.{moved, ended}

-- where state n stands
abbrev pub place : View → ℕ → ℕ
place v n = v.base + v.stride * n

-- n states stand among 240, each at a place of its own
pub record Fits (v : View) (n : ℕ) : Type 0 where
  pub apart : 1 ≤ v.stride
  pub low : v.base ≤ 480
  pub spread : v.stride * n ≤ 240
  pub room : (p : ℕ) → p < n → place v p < 240

-- state n stands at place n
abbrev pub whole : View
whole = record { base = 0; stride = 1 }

-- the states behind the first n
abbrev pub behind : View → ℕ → View
behind v n = record { base = place v n; stride = v.stride }

-- the pairs whose second part is state p of m
abbrev pub column : View → ℕ → ℕ → View
column v p m = record { base = place v p; stride = v.stride * m }

-- the pairs whose first part is state q, where there are m second parts
abbrev pub row : View → ℕ → ℕ → View
row v q m = record { base = place v (q * m); stride = v.stride }

-- what stands where there is no set
abbrev pub bare : Places
bare = record { words = [] }

-- whether x is among the starts in a state
abbrev pub starts_in : List Places → View → (k : Clock) → (r : Sequence) → ℕ → State k r → Bool
starts_in sets v k r x p = member (slice_index_or sets (place v (number k r p)) bare) x

-- the letter moved the starts, and those of `enter` entered
abbrev pub MovedBy : (k : Clock) → (r : Sequence) → Letter → (ℕ → Bool) → View → List Places → List Places → Type 0
MovedBy k r l enter v before after =
    (q : State k r) (x : ℕ) → starts_in after v k r x q ≡ moved k r l (enter x) (starts_in before v k r x) q

-- the set has the starts for which a match has ended
abbrev pub EndedIn : (k : Clock) → (r : Sequence) → View → List Places → Places → Type 0
EndedIn k r v sets p = (x : ℕ) → member p x ≡ ended k r (starts_in sets v k r x)

-- only the sets of the n states in view changed
abbrev pub Kept : ℕ → View → List Places → List Places → Type 0
Kept n v before after = (j : ℕ) → ((p : ℕ) → p < n → j ≢ place v p) → slice_index_or after j bare ≡ slice_index_or before j bare

-- the letter moved the starts in view, and nothing else changed
abbrev pub Advanced : (k : Clock) → (r : Sequence) → Letter → (ℕ → Bool) → View → List Places → List Places → Type 0
Advanced k r l enter v before after = MovedBy k r l enter v before after × Kept (states k r) v before after

-- the set has the starts from whose states one or more tops complete a match
abbrev pub Hopeful : (k : Clock) → (r : Sequence) → List Places → Places → Type 0
Hopeful k r sets p = (x : ℕ) → member p x ≡ any k r (λ q. starts_in sets whole k r x q && live k r q)
