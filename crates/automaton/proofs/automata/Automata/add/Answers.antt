use Rattle.std.proofs.Common.{◌≡◌, ℕ, ◌<◌, true, false, List, ◌++◌, [], ◌∷◌, ◌&&◌, nat_lt, length, Result, Ok, Err, sym, ap, ◌∙◌, subst, arith}
use Rattle.std.specs.Result.{MatchResult, is_ok}
use Rattle.std.proofs.lemmas.Bool.Decides.{nat_tests}
use Rattle.table.specs.declared.table.Table.{Table}
use Rattle.table.specs.Rows.{rows_of}
use Rattle.automaton.specs.declared.node.Node.{Node}
use Rattle.automaton.specs.Nodes.{entries, lower, AllLower, FactsBelow, Facts}
use Rattle.automaton.specs.Trees.{named_sequences, named_sequence_of}
use Rattle.automaton.specs.Automata.{entries_of}
use Rattle.automaton.proofs.Read.{length_entries, entries_more, lower_more, facts_more}
use Rattle.automaton.proofs.automata.Automata.add.Goals as goal

-- a node was put behind the others, or there was no room and nothing changed
abbrev Put : {E : Type 0} → Result ℕ E → Table Node 256 → Table Node 256 → Node → Type 0
Put r t t' x = MatchResult r (λ n. (n ≡ length (rows_of t)) × (n < 256) × (rows_of t' ≡ rows_of t ++ (x ∷ []))) (λ _. (length (rows_of t) ≡ 256) × (t' ≡ t))

put_keeps : {E : Type 0} (r : Result ℕ E) (t t' : Table Node 256) (x : Node) (P : List Node → Type 0) → Put r t t' x → P (rows_of t) → P (rows_of t ++ (x ∷ [])) → P (rows_of t')
put_keeps (Ok n) t t' x P h p q = subst P (sym h.2) q
put_keeps (Err e) t t' x P h p q = subst (λ t. P (rows_of t)) (sym h.1) p

put_room : {E : Type 0} (r : Result ℕ E) (t t' : Table Node 256) (x : Node) → Put r t t' x → is_ok r ≡ nat_lt (length (rows_of t)) 256
put_room (Ok n) t t' x h = let (e, l, _) = h in grind (arith, nat_tests)
put_room (Err e) t t' x h = let (f, _) = h in grind (arith, nat_tests)

put_more : {E : Type 0} (r : Result ℕ E) (t t' : Table Node 256) (x : Node) → Put r t t' x → is_ok r ≡ true → rows_of t' ≡ rows_of t ++ (x ∷ [])
put_more (Ok n) t t' x h e = h.2
put_more (Err e) t t' x h f = absurd (let z : ◌≡◌ false true = f in cc)

pub returns-then-not-is_lower-clause-value : goal.returns-then-not-is_lower-clause-value
unfolding entries_of
returns-then-not-is_lower-clause-value c =
    let rows : List Node = rows_of c.args.self.now.nodes in
    let n : length c.as_slice-nodes.result.now ≡ length (entries rows) = ap length c.as_slice-nodes.ensures.value ∙ sym (length_entries rows) in
    ap (λ b. b && nat_lt (length (entries rows)) 256) (sym c.if-not-is_lower.true ∙ c.is_lower.ensures.value ∙ ap (λ (n : ℕ). lower n c.args.entry) n)

pub invariant_of-self : goal.invariant_of-self
invariant_of-self c =
    let a = c.args.self.now in
    let rows : List Node = rows_of a.nodes in
    let x = c.describe-node.result in
    let is : c.as_slice-nodes.result.now ≡ rows = c.as_slice-nodes.ensures.value in
    let low : lower (length rows) x.entry ≡ true =
    ap (lower (length rows)) c.describe-node.ensures.entry ∙ ap (λ (xs : List Node). lower (length xs) c.args.entry) (sym is) ∙ sym c.is_lower.ensures.value ∙ c.if-not-is_lower.false in
    let facts : Facts (named_sequence_of (named_sequences (entries rows)) x.entry) x =
    subst (λ e. Facts (named_sequence_of (named_sequences (entries rows)) e) x) (sym c.describe-node.ensures.entry)
    (c.describe-node.ensures.facts (named_sequences (entries rows)) (subst (FactsBelow (named_sequences (entries rows))) (sym is) a.facts)) in
    record {
      lower = put_keeps c.push.result a.nodes c.push.new.self x (λ xs. AllLower (entries xs)) c.push.ensures.made a.lower (lower_more rows x a.lower low);
      facts = put_keeps c.push.result a.nodes c.push.new.self x (λ xs. FactsBelow (named_sequences (entries xs)) xs) c.push.ensures.made a.facts (facts_more rows x a.facts facts);
    }

pub returns-clause-value : goal.returns-clause-value
unfolding entries_of
returns-clause-value c =
    let a = c.args.self.now in
    let rows : List Node = rows_of a.nodes in
    let n : length c.as_slice-nodes.result.now ≡ length (entries rows) = ap length c.as_slice-nodes.ensures.value ∙ sym (length_entries rows) in
    let low : true ≡ lower (length (entries rows)) c.args.entry = sym c.if-not-is_lower.false ∙ c.is_lower.ensures.value ∙ ap (λ (n : ℕ). lower n c.args.entry) n in
    c.is_ok.ensures.value ∙ put_room c.push.result a.nodes c.push.new.self c.describe-node.result c.push.ensures.made
    ∙ ap (λ (n : ℕ). nat_lt n 256) (sym (length_entries rows)) ∙ ap (λ b. b && nat_lt (length (entries rows)) 256) low

pub returns-clause-added : goal.returns-clause-added
unfolding entries_of
returns-clause-added c e =
    let a = c.args.self.now in
    let rows : List Node = rows_of a.nodes in
    let x = c.describe-node.result in
    ap entries (put_more c.push.result a.nodes c.push.new.self x c.push.ensures.made (sym c.is_ok.ensures.value ∙ e))
    ∙ entries_more rows x ∙ ap (λ e. entries rows ++ (e ∷ [])) c.describe-node.ensures.entry
