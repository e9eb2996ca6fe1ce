use Rattle.std.proofs.Common.{◌∙◌}
use Rattle.cedar_schema_elements.proofs.SetLemmas.{type_search}
use Rattle.cedar_schema_elements.proofs.entity_type_node.ValidatorEntityTypeTCNodeEntityType.has_edge_to.Goals as goal

pub returns : goal.returns
returns c = c.contains.ensures ∙ type_search c.args.key.now c.args.self.now.descendants.keys
