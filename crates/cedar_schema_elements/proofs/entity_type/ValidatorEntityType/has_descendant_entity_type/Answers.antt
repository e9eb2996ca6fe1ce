use Rattle.cedar_schema_elements.proofs.SetLemmas.{type_found}
use Rattle.cedar_schema_elements.proofs.entity_type.ValidatorEntityType.has_descendant_entity_type.Goals as goal

pub returns : goal.returns
returns c = rw c.contains.ensures (type_found c.args.ty.now c.args.self.now.descendants.keys)
