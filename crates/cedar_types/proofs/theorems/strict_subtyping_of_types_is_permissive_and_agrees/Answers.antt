use Rattle.cedar_type_rules.proofs.AgreeLaws.{Below-strict-both}
use Rattle.cedar_types.proofs.theorems.strict_subtyping_of_types_is_permissive_and_agrees.Goals as goal
use Rattle.cedar_types.specs.Words.{IsWellFormed-type, ty_of}

pub returns : goal.returns
returns c = Below-strict-both (ty_of c.args.a.now) (ty_of c.args.b.now) (IsWellFormed-type c.args.a.now)
