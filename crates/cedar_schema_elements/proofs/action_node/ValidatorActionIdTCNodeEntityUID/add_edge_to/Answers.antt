use Rattle.std.proofs.Common.{◌||◌, ap, ◌∙◌}
use Rattle.std.specs.List.{list_any}
use Rattle.cedar_ast.specs.contracts.entity_uid.EntityUIDPartialEq.TheImpl as uid_eq
use Rattle.cedar_schema_elements.proofs.SetLemmas.{cond-first, uid_inserted}
use Rattle.cedar_schema_elements.proofs.action_node.ValidatorActionIdTCNodeEntityUID.add_edge_to.Goals as goal
use Rattle.cedar_schema_elements.specs.declared.action_id.ActionParts.{ActionParts}

pub returns-clause-added : goal.returns-clause-added
returns-clause-added c other =
    let eq = (uid_eq.ghosts).eq in
    let old = c.deref_mut.result.now.descendants.keys in
    uid_inserted old _ c.args.key other (c.in_ok-insert.ensures.updates.0 other)
    ∙ (cond-first (eq c.args.key other) (list_any (eq other) old)
    ∙ ap (λ (parts : ActionParts). eq c.args.key other || list_any (eq other) parts.descendants.keys) c.deref_mut.ensures.value)
