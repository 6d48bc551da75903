use Rattle.std.proofs.Common.{ap, ◌∙◌}
use Rattle.std.specs.List.{slice_get}
use Rattle.property.specs.Place.{condition_trees, sequences_of, sequence_trees}
use Rattle.property.proofs.Trees.{sizes_of_trees}
use Rattle.property.proofs.place.Property.sequence_size.Goals as goal

pub returns-clause-value : goal.returns-clause-value
unfolding sequences_of
returns-clause-value c = c.get.ensures.value ∙ ap (λ zs. slice_get zs c.args.i) c.args.self.now.measured

pub returns-clause-tree : goal.returns-clause-tree
unfolding sequences_of sequence_trees
returns-clause-tree c =
    let p = c.args.self.now in
    c.get.ensures.value ∙ ap (λ zs. slice_get zs c.args.i) p.measured ∙ ap (λ zs. slice_get zs c.args.i) (sizes_of_trees (condition_trees p) (sequences_of p))
