use Rattle.cedar_type_rules.proofs.CoreSteps.{refused-lacks}
use Rattle.cedar_types.proofs.core_type.core_type_of.Goals as goal
use Rattle.cedar_types.specs.Meaning.{ty_of}

pub returns-clause-lacks : goal.returns-clause-lacks
returns-clause-lacks c = refused-lacks (ty_of c.args.ty) c.core_type.result c.core_type.ensures.fault
