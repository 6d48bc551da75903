use Rattle.std.proofs.Common.{◌≡◌, true, length, get_or, sym, subst}
use Rattle.std.proofs.lemmas.Bool.{and_parts, ltb-true}
use Rattle.psl.specs.Syntax.{atom, empty}
use Rattle.psl.specs.declared.entry.Sequence as entry
use Rattle.psl.specs.declared.entry.Sequence.TheVariants as s
use Rattle.automaton.specs.declared.node.Node.{Node}
use Rattle.automaton.specs.Nodes.{blank, lower, Facts}
use Rattle.automaton.specs.Trees.{named_sequence_of}
use Rattle.automaton.proofs.Facts.{both_facts, at_facts}
use Rattle.automaton.proofs.node.describe.Goals as goal

pub returns-in-Both-clause-facts : goal.returns-in-Both-clause-facts
returns-in-Both-clause-facts c rs h =
    let nodes = c.args.nodes.now in
    let a = c.in-Both.a in
    let b = c.in-Both.b in
    let low : lower (length nodes) (s.Both a b) ≡ true = subst (λ (e : entry.Sequence). lower (length nodes) e ≡ true) c.in-Both.is c.requires.lower in
    let (la, lb) = and_parts _ _ low in
    subst (λ (e : entry.Sequence). Facts (named_sequence_of rs e) c.product.result) (sym c.in-Both.is)
    (subst (Facts (named_sequence_of rs (s.Both a b))) (sym c.product.ensures.value)
    (both_facts (s.Both a b) (get_or rs a empty) (get_or rs b empty) (get_or nodes a blank) (get_or nodes b blank) (h a (ltb-true _ _ la)) (h b (ltb-true _ _ lb))))

pub returns-in-At-clause-facts : goal.returns-in-At-clause-facts
returns-in-At-clause-facts c rs h =
    let nodes = c.args.nodes.now in
    let a = c.in-At.a in
    let d = atom c.in-At.field-1 in
    let low : lower (length nodes) (s.At a c.in-At.field-1) ≡ true = subst (λ (e : entry.Sequence). lower (length nodes) e ≡ true) c.in-At.is c.requires.lower in
    let (f, k, n, l) = h a (ltb-true _ _ low) in
    let node : Node = get_or nodes a blank in
    subst (λ (e : entry.Sequence). Facts (named_sequence_of rs e) c.new-in-At.result) (sym c.in-At.is)
    (subst (Facts (named_sequence_of rs (s.At a c.in-At.field-1))) (sym c.new-in-At.ensures.value)
    (at_facts (s.At a c.in-At.field-1) (get_or rs a empty) d node (h a (ltb-true _ _ low))))
