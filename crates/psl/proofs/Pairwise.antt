-- What carries over from a list to one that is related to it letter by letter.
use Rattle.std.proofs.Common.{◌≡◌, T, List, [], ◌∷◌, ◌++◌, refl, ap, subst}
use Rattle.psl.specs.Syntax.{Condition}
use Rattle.psl.specs.Letter.{Letter, satisfies}
use Rattle.psl.specs.Word.{Ends}
use Rattle.psl.specs.Clocked.{Repeats, done, more}
use Rattle.psl.specs.OptionalClock.{Clock, ticks, waits, TickUnder}
use Rattle.psl.specs.Pairwise.{Pairwise}
use Rattle.psl.proofs.Languages.{Concat, Fusion}

module _ (R : Letter → Letter → Type 0) where
  -- sets of lists of which the second has all that is related to the first
  abbrev pub Carries : (List Letter → Type 0) → (List Letter → Type 0) → Type 0
  Carries P Q = (u v : List Letter) → Pairwise R u v → P u → Q v

  pub pairwise_nil : (v : List Letter) → Pairwise R [] v → v ≡ []
  pairwise_nil [] h = refl
  pairwise_nil (m ∷ v) h = absurd h

  -- a list related to a joined one is joined in the same way
  pub pairwise_split : (u w v : List Letter) → Pairwise R (u ++ w) v
      → (u' : List Letter) × (w' : List Letter) × (v ≡ u' ++ w') × Pairwise R u u' × Pairwise R w w'
  pairwise_split [] w v h = ([], v, refl, tt, h)
  pairwise_split (l ∷ u) w [] h = absurd h
  pairwise_split (l ∷ u) w (m ∷ v) h =
      let (u', w', e, a, b) = pairwise_split u w v h.1 in
      (m ∷ u', w', ap (λ x. m ∷ x) e, (h.0, a), b)

  pub pairwise_join : (u u' w w' : List Letter) → Pairwise R u u' → Pairwise R w w' → Pairwise R (u ++ w) (u' ++ w')
  pairwise_join [] [] w w' h k = k
  pairwise_join [] (m ∷ u') w w' h k = absurd h
  pairwise_join (l ∷ u) [] w w' h k = absurd h
  pairwise_join (l ∷ u) (m ∷ u') w w' h k = (h.0, pairwise_join u u' w w' h.1 k)

  -- conditions
  pub ends_carry : (b b' : Condition) → ((l m : Letter) → R l m → T (satisfies l b) → T (satisfies m b')) → Carries (Ends b) (Ends b')
  ends_carry b b' c [] v h t = absurd t
  ends_carry b b' c (l ∷ []) [] h t = absurd h
  ends_carry b b' c (l ∷ []) (m ∷ []) h t = c l m h.0 t
  ends_carry b b' c (l ∷ []) (m ∷ (n ∷ v)) h t = absurd h.1
  ends_carry b b' c (l ∷ (o ∷ u)) [] h t = absurd h
  ends_carry b b' c (l ∷ (o ∷ u)) (m ∷ []) h t = absurd h.1
  ends_carry b b' c (l ∷ (o ∷ u)) (m ∷ (n ∷ v)) h t = ends_carry b b' c (o ∷ u) (n ∷ v) h.1 t

  pub tick_carry : (k k' : Clock) → ((l m : Letter) → R l m → T (ticks k l) → T (ticks k' m)) → ((l m : Letter) → R l m → T (waits k l) → T (waits k' m))
      → Carries (TickUnder k) (TickUnder k')
  tick_carry k k' c d [] v h t = absurd t
  tick_carry k k' c d (l ∷ []) [] h t = absurd h
  tick_carry k k' c d (l ∷ []) (m ∷ []) h t = c l m h.0 t
  tick_carry k k' c d (l ∷ []) (m ∷ (n ∷ v)) h t = absurd h.1
  tick_carry k k' c d (l ∷ (o ∷ u)) [] h t = absurd h
  tick_carry k k' c d (l ∷ (o ∷ u)) (m ∷ []) h t = absurd h.1
  tick_carry k k' c d (l ∷ (o ∷ u)) (m ∷ (n ∷ v)) h t = (d l m h.0 t.0, tick_carry k k' c d (o ∷ u) (n ∷ v) h.1 t.1)

  -- sequences
  pub concat_carry : (P P' Q Q' : List Letter → Type 0) → Carries P P' → Carries Q Q' → Carries (Concat P Q) (Concat P' Q')
  concat_carry P P' Q Q' c d x v h (u, w, e, p, q) =
      let (u', w', e', a, b) = pairwise_split u w v (subst (λ z. Pairwise R z v) e h) in
      (u', w', e', c u u' a p, d w w' b q)

  pub fusion_carry : (P P' Q Q' : List Letter → Type 0) → Carries P P' → Carries Q Q' → Carries (Fusion P Q) (Fusion P' Q')
  fusion_carry P P' Q Q' c d x v h (u, l, w, e, p, q) =
      let (u', w', e', a, b) = pairwise_split u (l ∷ w) v (subst (λ z. Pairwise R z v) e h) in
      go u' w' e' a b
    where
      go : (u' w' : List Letter) → v ≡ u' ++ w' → Pairwise R u u' → Pairwise R (l ∷ w) w' → Fusion P' Q' v
      go u' [] e a b = absurd b
      go u' (m ∷ w') e a b =
          (u', m, w', e, c (u ++ (l ∷ [])) (u' ++ (m ∷ [])) (pairwise_join u u' (l ∷ []) (m ∷ []) a (b.0, tt)) p, d (l ∷ w) (m ∷ w') b q)

  more_carry : (P Q : List Letter → Type 0) → Carries P Q → (l : Letter) (u w : List Letter) → P (l ∷ u) → ((v : List Letter) → Pairwise R w v → Repeats Q v)
      → (v u' w' : List Letter) → v ≡ u' ++ w' → Pairwise R (l ∷ u) u' → Pairwise R w w' → Repeats Q v
  more_carry P Q c l u w p ih v [] w' e h k = absurd h
  more_carry P Q c l u w p ih v (m ∷ u') w' e h k = more m u' w' e (c (l ∷ u) (m ∷ u') h p) (ih w' k)

  pub repeats_carry : (P Q : List Letter → Type 0) → Carries P Q → {u : List Letter} → Repeats P u → (v : List Letter) → Pairwise R u v → Repeats Q v
  repeats_carry P Q c done [] h = done
  repeats_carry P Q c done (m ∷ v) h = absurd h
  repeats_carry P Q c (more l u w e p q) v h =
      let (u', w', e', a, b) = pairwise_split (l ∷ u) w v (subst (λ z. Pairwise R z v) e h) in
      more_carry P Q c l u w p (repeats_carry P Q c q) v u' w' e' a b

  pub empty_carry : Carries (λ v. v ≡ []) (λ v. v ≡ [])
  empty_carry u v h e = pairwise_nil v (subst (λ z. Pairwise R z v) e h)
