use Rattle.std.proofs.Common.{sym, refl, ◌∙◌, arith}
use Rattle.std.proofs.lemmas.Bool.{le-ltb}
use Rattle.bits.proofs.Sets.{in_past, in_read}
use Rattle.bits.proofs.places.Places.contains.Goals as goal

pub returns-then-k-lt-PLACES : goal.returns-then-k-lt-PLACES
returns-then-k-lt-PLACES c = record { value = c.has.ensures.value ∙ in_read 64 c.args.self.now.words c.args.k _ refl }

pub returns-else-k-lt-PLACES : goal.returns-else-k-lt-PLACES
returns-else-k-lt-PLACES c = record { value = le-ltb _ _ c.if-k-lt-PLACES.false ∙ sym (in_past 64 c.args.self.now.words c.args.k (omega arith)) }
