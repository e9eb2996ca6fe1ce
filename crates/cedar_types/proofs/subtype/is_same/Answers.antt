use Rattle.cedar_ast.proofs.Names.{entity_type_eq-same}
use Rattle.cedar_ast.specs.EntityType.{type_name}
use Rattle.cedar_type_rules.proofs.SubtypeLemmas.{pointwise-map_Decides}
use Rattle.cedar_types.proofs.subtype.is_same.Goals as goal

pub returns : goal.returns
returns c =
    rw c.eq.ensures (pointwise-map_Decides type_name _ entity_type_eq-same c.args.lower.now.lub_elements.value.items
    c.args.upper.now.lub_elements.value.items)
