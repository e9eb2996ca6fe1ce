use Rattle.std.proofs.Common.{ap}
use Rattle.cedar_queries.proofs.possible.has_declared_entity_types.Goals as goal
use Rattle.cedar_types.proofs.MemberParts.{ty_of-entity}
use Rattle.cedar_types.specs.Meaning.{ty_of}

pub returns-in-Entity : goal.returns-in-Entity
returns-in-Entity c =
    rw (ap ty_of c.in-Entity.is, ty_of-entity c.in-Entity.kind) c.is_declared_kind.ensures
