use Rattle.cedar_type_rules.proofs.ValueInclusion.{inclusion, inclusion_and_names}
use Rattle.cedar_types.proofs.theorems.permissive_subtyping_of_types_is_inclusion.Goals as goal
use Rattle.cedar_types.specs.Words.{IsWellFormed-type, ty_of}

pub returns-clause-stated : goal.returns-clause-stated
returns-clause-stated c =
    inclusion (ty_of c.args.a.now) (ty_of c.args.b.now) (IsWellFormed-type c.args.a.now) (IsWellFormed-type c.args.b.now)

pub returns-clause-with_optional : goal.returns-clause-with_optional
returns-clause-with_optional c =
    inclusion_and_names (ty_of c.args.a.now) (ty_of c.args.b.now) (IsWellFormed-type c.args.a.now) (IsWellFormed-type c.args.b.now)
