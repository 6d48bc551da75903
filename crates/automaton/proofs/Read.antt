-- Nodes read one after another.
use Rattle.std.proofs.Common.{◌≡◌, ℕ, ◌<◌, ◌≤◌, true, ◌&&◌, ltb, List, [], ◌∷◌, ◌++◌, length, get_or, take, sym, refl, ap, ◌∙◌, subst, ap₂, arith, below_more, length-append}
use mathlib.Core.List.{map-append}
use lib.ListN.{length-map}
use Rattle.std.proofs.lemmas.List.{get_or-take, get_or-map, get_or_push, get_or_append_left, length-take-le}
use Rattle.std.proofs.lemmas.Bool.{and_parts, ltb-true}
use Rattle.psl.specs.Syntax.{atom, Sequence, concat, fusion, either, both, empty, star, sequence_at}
use Rattle.psl.specs.Table.{grow}
use Rattle.psl.specs.declared.entry.Sequence as entry
use Rattle.psl.specs.declared.entry.Sequence.TheVariants as s
use Rattle.psl.proofs.Grow.{grow_push, grow_at, length_grow}
use Rattle.table.specs.declared.table.Table.{Table}
use Rattle.table.specs.Rows.{rows_of}
use Rattle.automaton.specs.declared.node.Node.{Node}
use Rattle.automaton.specs.Nodes.{blank, entries, lower, AllLower, Facts, FactsBelow, Shape}
use Rattle.automaton.specs.Trees.{named_sequence_of, named_sequences, tree}

-- the trees before entry i are those of lower numbers
below : (es : List entry.Sequence) (i a : ℕ) → a < i → get_or (take i (named_sequences es)) a empty ≡ tree es a
below es i a h = get_or-take i (named_sequences es) a empty h

-- an entry with two parts
two_parts : (es : List entry.Sequence) (i a b : ℕ) (f : Sequence → Sequence → Sequence)
    → tree es i ≡ f (get_or (take i (named_sequences es)) a empty) (get_or (take i (named_sequences es)) b empty) → (ltb a i && ltb b i) ≡ true
    → (a < i) × (b < i) × (tree es i ≡ f (tree es a) (tree es b))
two_parts es i a b f is low =
    let (x, y) = and_parts (ltb a i) (ltb b i) low in
    let h = ltb-true a i x in
    let g = ltb-true b i y in
    (h, g, is ∙ ap₂ f (below es i a h) (below es i b g))

-- what an entry denotes
shape_of : (es : List entry.Sequence) (i : ℕ) (e : entry.Sequence) → tree es i ≡ named_sequence_of (take i (named_sequences es)) e → lower i e ≡ true → Shape es i e
shape_of es i (s.Condition a) is low = is
shape_of es i (s.Concat a b) is low = two_parts es i a b concat is low
shape_of es i (s.Fusion a b) is low = two_parts es i a b fusion is low
shape_of es i (s.Either a b) is low = two_parts es i a b either is low
shape_of es i (s.Both a b) is low = two_parts es i a b both is low
shape_of es i s.Empty is low = is
shape_of es i (s.Star a) is low = let h = ltb-true a i low in (h, is ∙ ap star (below es i a h))
shape_of es i (s.At a b) is low = let h = ltb-true a i low in (h, is ∙ ap (λ r. sequence_at r (atom b)) (below es i a h))

module _ (nodes : List Node) where
  pub length_entries : length (entries nodes) ≡ length nodes
  length_entries = length-map nodes (λ x. x.entry)

  entry_at : (i : ℕ) → i < length nodes → get_or (entries nodes) i (s.Condition 0) ≡ (get_or nodes i blank).entry
  entry_at i h = get_or-map (λ x. x.entry) nodes i blank (s.Condition 0) h

  -- a node's entry denotes what its number does
  pub shape_at : AllLower (entries nodes) → (i : ℕ) → i < length nodes → Shape (entries nodes) i (get_or nodes i blank).entry
  unfolding named_sequences
  shape_at low i h =
      let there : i < length (entries nodes) = omega (arith, length_entries) in
      shape_of (entries nodes) i (get_or nodes i blank).entry
      (grow_at named_sequence_of (s.Condition 0) empty (entries nodes) i there
      ∙ ap (named_sequence_of (take i (grow named_sequence_of [] (entries nodes)))) (entry_at i h))
      (ap (lower i) (sym (entry_at i h)) ∙ low i there)

-- there are at most 256
pub few_entries : (t : Table Node 256) → length (entries (rows_of t)) ≤ 256
few_entries t = omega (arith, length_entries (rows_of t), length-take-le t.count t.rows (omega arith))

-- one node more
module _ (nodes : List Node) (x : Node) where
  pub entries_more : entries (nodes ++ (x ∷ [])) ≡ entries nodes ++ (x.entry ∷ [])
  entries_more = map-append (λ x. x.entry) nodes (x ∷ [])

  pub lower_more : AllLower (entries nodes) → lower (length nodes) x.entry ≡ true → AllLower (entries (nodes ++ (x ∷ [])))
  lower_more old new =
      subst AllLower (sym entries_more)
      (λ i h. below_more (λ (i : ℕ). lower i (get_or (entries nodes ++ (x.entry ∷ [])) i (s.Condition 0)) ≡ true) (length nodes)
      (λ i g. ap (lower i) (get_or_append_left (entries nodes) (x.entry ∷ []) (s.Condition 0) i (omega (arith, length_entries nodes))) ∙ old i (omega (arith, length_entries nodes)))
      (ap (lower (length nodes)) (get_or_push (entries nodes) x.entry (s.Condition 0) (length nodes) (length_entries nodes)) ∙ new)
      i (omega (arith, length-append (entries nodes) (x.entry ∷ []), length_entries nodes)))

  trees_more : named_sequences (entries (nodes ++ (x ∷ []))) ≡ named_sequences (entries nodes) ++ (named_sequence_of (named_sequences (entries nodes)) x.entry ∷ [])
  unfolding named_sequences
  trees_more = ap (grow named_sequence_of []) entries_more ∙ grow_push named_sequence_of [] (entries nodes) x.entry

  long_trees : length (named_sequences (entries nodes)) ≡ length nodes
  unfolding named_sequences
  long_trees = length_grow named_sequence_of [] (entries nodes) ∙ omega (arith, length_entries nodes)

  pub facts_more : FactsBelow (named_sequences (entries nodes)) nodes → Facts (named_sequence_of (named_sequences (entries nodes)) x.entry) x
      → FactsBelow (named_sequences (entries (nodes ++ (x ∷ [])))) (nodes ++ (x ∷ []))
  facts_more old new =
      subst (λ ts. FactsBelow ts (nodes ++ (x ∷ []))) (sym trees_more)
      (λ j h. below_more (λ (j : ℕ). Facts (get_or (named_sequences (entries nodes) ++ (t ∷ [])) j empty) (get_or (nodes ++ (x ∷ [])) j blank)) (length nodes)
      (λ j g. subst (λ r. Facts r (get_or (nodes ++ (x ∷ [])) j blank)) (sym (get_or_append_left (named_sequences (entries nodes)) (t ∷ []) empty j (omega (arith, long_trees))))
      (subst (Facts (get_or (named_sequences (entries nodes)) j empty)) (sym (get_or_append_left nodes (x ∷ []) blank j g)) (old j g)))
      (subst (λ r. Facts r (get_or (nodes ++ (x ∷ [])) (length nodes) blank)) (sym (get_or_push (named_sequences (entries nodes)) t empty (length nodes) long_trees))
      (subst (Facts t) (sym (get_or_push nodes x blank (length nodes) refl)) new))
      j (omega (arith, length-append nodes (x ∷ []))))
    where
      t : Sequence
      t = named_sequence_of (named_sequences (entries nodes)) x.entry
