use Rattle.cedar_schema_elements.proofs.apply_spec.ValidatorApplySpec+EntityType.is_applicable_resource_type.Goals as goal
use Rattle.cedar_types.proofs.MemberLemmas.{list_any-names}

pub returns : goal.returns
returns c = rw c.contains.ensures (list_any-names c.args.ty.now c.args.self.now.resources.keys)
