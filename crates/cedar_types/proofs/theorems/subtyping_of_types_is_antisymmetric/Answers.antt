use Rattle.cedar_type_rules.proofs.AntisymmetryLaws.{Below-same}
use Rattle.cedar_types.proofs.theorems.subtyping_of_types_is_antisymmetric.Goals as goal
use Rattle.cedar_types.specs.Words.{IsWellFormed-type, ty_of}

pub returns : goal.returns
returns c mode =
    Below-same mode (ty_of c.args.a.now) (ty_of c.args.b.now) (IsWellFormed-type c.args.a.now) (IsWellFormed-type c.args.b.now)
