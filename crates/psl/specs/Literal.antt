-- The shapes that definitions here take for the sake of proofs, held against the literal wording.
use Rattle.std.specs.Prelude.{◌≡◌, ℕ, suc, ◌+◌, ◌-◌, ◌<◌, ◌≤◌, T, ◌⊎◌, ◌↔◌, List, [], ◌∷◌, ◌++◌, length, ◌≢◌, slice_index_or}
use Rattle.std.proofs.Math.Option.{some, map}
use Rattle.psl.specs.Syntax.{Condition, negation, Sequence, condition, star}
use Rattle.psl.specs.Syntax.{Formula, strong, weak, strong_sequence, weak_sequence, next, abort, implies}
use Rattle.psl.specs.Letter.{Letter, bottom, mirror, satisfies}
use Rattle.psl.specs.Word.{Word, with_tops, mir, seen, Place, Holds, from, front, Tick}
use Rattle.psl.specs.Clocked.{Matches, Satisfies}

-- v is the n letters of w from place i on: w[i..j], where n is suc j - i
abbrev pub Stretch : Word → ℕ → ℕ → List Letter → Type 0
Stretch w i n v = (length v ≡ n) × ((m : ℕ) → m < n → seen w (i + m) ≡ some (slice_index_or v m bottom))

-- v has a last letter, which satisfies c, and its earlier letters all satisfy "not c"
abbrev pub LiteralTick : Condition → List Letter → Type 0
LiteralTick c v =
    (u : List Letter) × (l : Letter) × (v ≡ u ++ (l ∷ [])) × T (satisfies l c) × ((m : ℕ) → m < length u → T (satisfies (slice_index_or u m bottom) (negation c)))

-- w[i..j] is a tick of c
abbrev pub TickFromTo : Condition → Word → ℕ → ℕ → Type 0
TickFromTo c w i j = (v : List Letter) × Stretch w i (suc j - i) v × LiteralTick c v

-- each shape says what the literal wording says
pub record LiteralWording : Type 0 where
  -- w[0..j] is front w (suc j), and w[0..j-1], which abort at place j keeps, is front w j: no bottom stands in
  pub prefix : (w : Word) (j n : ℕ) → Place w j → n ≤ suc j → (v : List Letter) → Stretch w 0 n v ↔ (v ≡ front w n)
  -- place m of w[i..] is place i + m of w
  pub suffix : (w : Word) (i m : ℕ) → seen (from w i) m ≡ seen w (i + m)
  -- mir(w) has the mirrors of w's letters
  pub mirrored : (w : Word) (i : ℕ) → seen (mir w) i ≡ map mirror (seen w i)
  -- a tick of c
  pub tick : (c : Condition) (v : List Letter) → Tick c v ↔ LiteralTick c v
  -- a condition matches a tick whose last letter satisfies it
  pub last : (c b : Condition) (v : List Letter)
      → Matches c (condition b) v ↔ ((u : List Letter) × (l : Letter) × (v ≡ u ++ (l ∷ [])) × LiteralTick c v × T (satisfies l b))
  -- r[*]: empty, or a non-empty match of r and a match of r[*]
  pub repeated : (c : Condition) (r : Sequence) (v : List Letter) → Matches c (star r) v
      ↔ ((v ≡ []) ⊎ ((u w : List Letter) × (v ≡ u ++ w) × (u ≢ []) × Matches c r u × Matches c (star r) w))
  -- b!: some w[0..j] is a tick of c, and letter j satisfies b
  pub strong_condition : (c b : Condition) (w : Word) → Satisfies c (strong b) w ↔ ((j : ℕ) × TickFromTo c w 0 j × Holds (seen w j) b)
  -- b: for every j where mir(w)[0..j] is a tick of c, letter j satisfies b
  pub weak_condition : (c b : Condition) (w : Word) → Satisfies c (weak b) w ↔ ((j : ℕ) → TickFromTo c (mir w) 0 j → Holds (seen w j) b)
  -- r!: some w[0..j] matches r
  pub strong_match : (c : Condition) (r : Sequence) (w : Word)
      → Satisfies c (strong_sequence r) w ↔ ((j : ℕ) × (v : List Letter) × Stretch w 0 (suc j) v × Matches c r v)
  -- r: every w[0..j] followed by endless tops satisfies r!
  pub weak_match : (c : Condition) (r : Sequence) (w : Word) → Satisfies c (weak_sequence r) w
      ↔ ((j : ℕ) (v : List Letter) → Stretch w 0 (suc j) v → Satisfies c (strong_sequence r) (with_tops v))
  -- X! f: some j below k, w[0..j] and w[j+1..k] are ticks of c, and w[k..] satisfies f
  pub next_tick : (c : Condition) (f : Formula) (w : Word) → Satisfies c (next f) w
      ↔ ((j k : ℕ) × (j < k) × TickFromTo c w 0 j × TickFromTo c w (suc j) k × Satisfies c f (from w k))
  -- f abort b: f holds of w, or of w[0..j-1] followed by endless tops, for some j where letter j satisfies b
  pub aborted : (c b : Condition) (f : Formula) (w : Word) → Satisfies c (abort f b) w
      ↔ (Satisfies c f w ⊎ ((j : ℕ) × Holds (seen w j) b × ((v : List Letter) × Stretch w 0 j v × Satisfies c f (with_tops v))))
  -- r |-> f: wherever mir(w)[0..j] matches r, w[j..] satisfies f
  pub implied : (c : Condition) (r : Sequence) (f : Formula) (w : Word) → Satisfies c (implies r f) w
      ↔ ((j : ℕ) (v : List Letter) → Stretch (mir w) 0 (suc j) v → Matches c r v → Satisfies c f (from w j))
