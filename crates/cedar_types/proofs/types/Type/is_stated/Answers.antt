use Rattle.cedar_type_rules.proofs.StatedLemmas.{IsStated-with}
use Rattle.cedar_types.proofs.types.Type.is_stated.Goals as goal
use Rattle.cedar_types.specs.Words.{ty_of, value_trees}

pub returns-then-is_sampled-clause-stated : goal.returns-then-is_sampled-clause-stated
returns-then-is_sampled-clause-stated c = λ yes.
    IsStated-with c.args.extensions.now (value_trees c.args.samples.now) (ty_of c.args.self.now)
    (c.is_sampled.ensures.sampled.0 c.if-is_sampled.true, c.requires_all.ensures.0 yes)
