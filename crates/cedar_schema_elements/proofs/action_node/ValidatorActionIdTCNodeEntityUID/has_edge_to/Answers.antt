use Rattle.std.proofs.Common.{ap, ◌∙◌}
use Rattle.std.specs.List.{list_any}
use Rattle.cedar_ast.specs.contracts.entity_uid.EntityUIDPartialEq.TheImpl as uid_eq
use Rattle.cedar_schema_elements.proofs.SetLemmas.{uid_search}
use Rattle.cedar_schema_elements.proofs.action_node.ValidatorActionIdTCNodeEntityUID.has_edge_to.Goals as goal
use Rattle.cedar_schema_elements.specs.declared.action_id.ActionParts.{ActionParts}

pub returns : goal.returns
returns c =
    c.contains.ensures ∙ uid_search c.args.key.now c.deref.result.now.descendants.keys
    ∙ ap (λ (parts : ActionParts). list_any ((uid_eq.ghosts).eq c.args.key.now) parts.descendants.keys) c.deref.ensures
