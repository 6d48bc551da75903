use Rattle.form.proofs.Made.{rewritten_made}
use Rattle.form.proofs.MetPairs.{met_least}
use Rattle.form.proofs.place.Form.remove_clocks.Goals as goal

pub invariant_of-self : goal.invariant_of-self
invariant_of-self c = record { made = rewritten_made c.args.property.now _ _ c.in_ok-form_of.ensures.rewritten }

pub returns-clause-met : goal.returns-clause-met
returns-clause-met c = met_least c.args.property.now

pub returns-in_err-form_of-clause-met : goal.returns-in_err-form_of-clause-met
returns-in_err-form_of-clause-met c = met_least c.args.property.now
