use Rattle.cedar_type_rules.proofs.StatedLemmas.{IsInhabited-with}
use Rattle.cedar_types.proofs.types.Type.is_sampled.Goals as goal
use Rattle.cedar_types.specs.Words.{ty_of, value_trees}

pub returns-clause-inhabited : goal.returns-clause-inhabited
returns-clause-inhabited c = λ yes.
    IsInhabited-with c.args.extensions.now (value_trees c.args.samples.now) (ty_of c.args.self.now) (c.is_inhabited_with.ensures.0 yes)
