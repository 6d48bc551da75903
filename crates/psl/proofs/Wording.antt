-- The shapes of the definitions say what the literal wording says.
use Rattle.std.proofs.Common.{◌≡◌, ℕ, suc, ◌+◌, ◌-◌, ◌<◌, T, ◌⊎◌, ◌↔◌, List, [], ◌∷◌, ◌++◌, sym, refl, ap, ◌∙◌, subst, inl, inr, arith}
use Rattle.psl.specs.Syntax.{Condition, Sequence, condition}
use Rattle.psl.specs.Syntax.{Formula, strong, weak, strong_sequence, weak_sequence, next, abort, implies}
use Rattle.psl.specs.Letter.{Letter, satisfies}
use Rattle.psl.specs.Word.{Word, with_tops, mir, seen, Holds, from, front, Ends}
use Rattle.psl.specs.Clocked.{Repeats, done, more, Matches, Satisfies}
use Rattle.psl.specs.Literal.{Stretch, LiteralTick, TickFromTo, LiteralWording}
use Rattle.psl.proofs.Places.{holds_present, from_from, seen_from, seen_mir, place_of_mir, place_in_mir}
use Rattle.psl.proofs.Stretches.{stretch_at, stretch_only, stretch_place, prefix, tick, tick_place, tick_part}

-- a list that ends in a letter that satisfies b
ends_last : (b : Condition) (u : List Letter) (l : Letter) → T (satisfies l b) → Ends b (u ++ (l ∷ []))
ends_last b [] l h = h
ends_last b (x ∷ []) l h = h
ends_last b (x ∷ (y ∷ u)) l h = ends_last b (y ∷ u) l h

last_ends : (b : Condition) (v : List Letter) → Ends b v → (u : List Letter) × (l : Letter) × (v ≡ u ++ (l ∷ [])) × T (satisfies l b)
last_ends b [] h = absurd h
last_ends b (l ∷ []) h = ([], l, refl, h)
last_ends b (l ∷ (k ∷ v)) h = let (u, x, e, t) = last_ends b (k ∷ v) h in (l ∷ u, x, ap (λ y. l ∷ y) e, t)

last : (c b : Condition) (v : List Letter)
    → Matches c (condition b) v ↔ ((u : List Letter) × (l : Letter) × (v ≡ u ++ (l ∷ [])) × LiteralTick c v × T (satisfies l b))
last c b v = (
  (λ (t, h). let (u, l, e, s) = last_ends b v h in (u, l, e, (tick c v).0 t, s)),
  (λ (u, l, e, t, s). ((tick c v).1 t, subst (Ends b) (sym e) (ends_last b u l s))),
)

-- r[*]
abbrev LiteralStar : (List Letter → Type 0) → List Letter → Type 0
LiteralStar P v = (v ≡ []) ⊎ ((u w : List Letter) × (v ≡ u ++ w) × (u ≡ [] → ⊥) × P u × Repeats P w)

abbrev Filled : List Letter → Type 0
Filled [] = ⊥
Filled (l ∷ v) = Unit {0}

star_to : (P : List Letter → Type 0) {v : List Letter} → Repeats P v → LiteralStar P v
star_to P done = inl refl
star_to P (more l u w e p q) = inr (l ∷ u, w, e, (λ z. subst Filled z tt), p, q)

star_made : (P : List Letter → Type 0) (v : List Letter) → LiteralStar P v → Repeats P v
star_made P v (inl e) = subst (Repeats P) (sym e) done
star_made P v (inr ([], w, e, n, p, q)) = absurd (n refl)
star_made P v (inr (l ∷ u, w, e, n, p, q)) = more l u w e p q

-- b! and X!
strong_condition : (c b : Condition) (w : Word)
    → Satisfies c (strong b) w ↔ ((j : ℕ) × TickFromTo c w 0 j × Holds (seen w j) b)
strong_condition c b w = (
  (λ (j, t, h). (j, (tick_part c w 0 j j (omega arith)).0 t, h)),
  (λ (j, t, h). (j, (tick_part c w 0 j j (omega arith)).1 t, h)),
)

next_tick : (c : Condition) (f : Formula) (w : Word) → Satisfies c (next f) w
    ↔ ((j k : ℕ) × (j < k) × TickFromTo c w 0 j × TickFromTo c w (suc j) k × Satisfies c f (from w k))
next_tick c f w = (to, back)
  where
    to : Satisfies c (next f) w → (j k : ℕ) × (j < k) × TickFromTo c w 0 j × TickFromTo c w (suc j) k × Satisfies c f (from w k)
    to (j, k, t, u, s) = (
      j,
      suc j + k,
      omega arith,
      (tick_part c w 0 j j (omega arith)).0 t,
      (tick_part c w (suc j) (suc j + k) k (omega arith)).0 u,
      subst (Satisfies c f) (from_from (suc j) k w) s,
    )

    back : (j k : ℕ) × (j < k) × TickFromTo c w 0 j × TickFromTo c w (suc j) k × Satisfies c f (from w k) → Satisfies c (next f) w
    back (j, k, h, t, u, s) =
        let d = k - suc j in
        let e : k ≡ suc j + d = omega arith in (
          j,
          d,
          (tick_part c w 0 j j (omega arith)).1 t,
          (tick_part c w (suc j) k d (omega arith)).1 u,
          subst (Satisfies c f) (ap (from w) e ∙ sym (from_from (suc j) d w)) s,
        )

-- b, r!, r, abort and |->, by letters that are there
weak_condition : (c b : Condition) (w : Word) → Satisfies c (weak b) w ↔ ((j : ℕ) → TickFromTo c (mir w) 0 j → Holds (seen w j) b)
weak_condition c b w = (
  (λ s j t. let k = (tick_part c (mir w) 0 j j (omega arith)).1 t in s j (place_of_mir w j (tick_place c j (mir w) k)) k),
  (λ s j p t. s j ((tick_part c (mir w) 0 j j (omega arith)).0 t)),
)

strong_match : (c : Condition) (r : Sequence) (w : Word)
    → Satisfies c (strong_sequence r) w ↔ ((j : ℕ) × (v : List Letter) × Stretch w 0 (suc j) v × Matches c r v)
strong_match c r w = (
  (λ (j, p, m). (j, front w (suc j), stretch_at w j (suc j) p (omega arith), m)),
  (λ (j, v, s, m). (j, stretch_place w j v s, subst (Matches c r) (stretch_only w 0 (suc j) v s) m)),
)

weak_match : (c : Condition) (r : Sequence) (w : Word) → Satisfies c (weak_sequence r) w
    ↔ ((j : ℕ) (v : List Letter) → Stretch w 0 (suc j) v → Satisfies c (strong_sequence r) (with_tops v))
weak_match c r w = (
  (λ x j v s. subst (λ y. Satisfies c (strong_sequence r) (with_tops y)) (sym (stretch_only w 0 (suc j) v s)) (x j (stretch_place w j v s))),
  (λ x j p. x j (front w (suc j)) (stretch_at w j (suc j) p (omega arith))),
)

aborted : (c b : Condition) (f : Formula) (w : Word) → Satisfies c (abort f b) w
    ↔ (Satisfies c f w ⊎ ((j : ℕ) × Holds (seen w j) b × ((v : List Letter) × Stretch w 0 j v × Satisfies c f (with_tops v))))
aborted c b f w = (to, back)
  where
    to : Satisfies c (abort f b) w → Satisfies c f w ⊎ ((j : ℕ) × Holds (seen w j) b × ((v : List Letter) × Stretch w 0 j v × Satisfies c f (with_tops v)))
    to (inl x) = inl x
    to (inr (j, h, x)) = inr (j, h, (front w j, stretch_at w j j (holds_present (seen w j) b h) (omega arith), x))

    back : Satisfies c f w ⊎ ((j : ℕ) × Holds (seen w j) b × ((v : List Letter) × Stretch w 0 j v × Satisfies c f (with_tops v))) → Satisfies c (abort f b) w
    back (inl x) = inl x
    back (inr (j, h, (v, s, x))) = inr (j, h, subst (λ y. Satisfies c f (with_tops y)) (stretch_only w 0 j v s) x)

implied : (c : Condition) (r : Sequence) (f : Formula) (w : Word) → Satisfies c (implies r f) w
    ↔ ((j : ℕ) (v : List Letter) → Stretch (mir w) 0 (suc j) v → Matches c r v → Satisfies c f (from w j))
implied c r f w = (
  (λ x j v s m. x j (place_of_mir w j (stretch_place (mir w) j v s)) (subst (Matches c r) (stretch_only (mir w) 0 (suc j) v s) m)),
  (λ x j p m. x j (front (mir w) (suc j)) (stretch_at (mir w) j (suc j) (place_in_mir w j p) (omega arith)) m),
)

pub literal_wording_lem : LiteralWording
literal_wording_lem = record {
  prefix = prefix;
  suffix = seen_from;
  mirrored = seen_mir;
  tick = tick;
  last = last;
  repeated = λ c r v. (star_to (Matches c r), star_made (Matches c r) v);
  strong_condition = strong_condition;
  weak_condition = weak_condition;
  strong_match = strong_match;
  weak_match = weak_match;
  next_tick = next_tick;
  aborted = aborted;
  implied = implied;
}
