use Rattle.std.proofs.Common.{◌∙◌}
use Rattle.std.specs.List.{list_any}
use Rattle.cedar_ast.specs.contracts.entity_type.EntityTypePartialEq.TheImpl as entity_type_eq
use Rattle.cedar_schema_elements.proofs.SetLemmas.{cond-first, type_inserted}
use Rattle.cedar_schema_elements.proofs.entity_type_node.ValidatorEntityTypeTCNodeEntityType.add_edge_to.Goals as goal

pub returns-clause-added : goal.returns-clause-added
returns-clause-added c other =
    let eq = (entity_type_eq.ghosts).eq in
    let old = c.args.self.now.descendants.keys in
    type_inserted old _ c.args.key other (c.in_ok-insert.ensures.updates.0 other)
    ∙ cond-first (eq c.args.key other) (list_any (eq other) old)
