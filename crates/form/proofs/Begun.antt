-- A draft that has only the property's conditions.
use Rattle.std.proofs.Common.{◌≡◌, [], length, get_or, ap, arith}
use Rattle.psl.specs.Syntax.{falsity}
use Rattle.psl.specs.Table.{conditions}
use Rattle.psl.specs.declared.entry.Condition.TheVariants.{True}
use Rattle.file.specs.Operands.{condition_names}
use Rattle.property.specs.declared.place.Property.{Property}
use Rattle.property.specs.Place.{conditions_of, condition_trees}
use Rattle.property.proofs.Held.{condition_fine}
use Rattle.form.specs.declared.draft.Draft as code
use Rattle.form.specs.Draft.{conditions_in, sequences_in, formulas_in}
use Rattle.form.specs.Named.{AllNamed}
use Rattle.form.specs.SequenceImages.{Carries, Fresh}
use Rattle.std.proofs.lemmas.Option.{slice_get-get_or}

-- each condition of a property names what it may
pub conditions_fine : (p : Property) → AllNamed condition_names True (conditions_of p)
conditions_fine p k h = condition_fine p k _ (slice_get-get_or (conditions_of p) k True h)

module _ (p : Property) (d : code.Draft) (same : conditions_in d ≡ conditions_of p) where
  carried : Carries p d
  unfolding condition_trees
  carried k h = record { there = omega (arith, ap length same); is = ap (λ es. get_or (conditions es) k falsity) same }

  pub fresh_is : sequences_in d ≡ [] → formulas_in d ≡ [] → Fresh p d
  fresh_is none_s none_f = record { carries = carried; count_c = ap length same; count_s = ap length none_s; count_f = ap length none_f }
