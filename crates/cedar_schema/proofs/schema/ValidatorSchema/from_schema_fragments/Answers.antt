use Rattle.cedar_schema.proofs.schema.ValidatorSchema.from_schema_fragments.Goals as goal
use Rattle.cedar_schema.specs.Words.{conditional_bag, parts_schema}
use Rattle.cedar_schema_laws.proofs.ComeBack.{declared_under_names}

pub from_parts-requires-clause-under_names : goal.from_parts-requires-clause-under_names
from_parts-requires-clause-under_names c =
    declared_under_names (conditional_bag c.args.fragments.items) c.args.extensions.now (parts_schema c.in_ok-parts.parts)
    c.in_ok-parts.ensures.built.declared
