use Rattle.std.proofs.Common.{◌++◌, ◌||◌, ap, sym, ◌∙◌}
use Rattle.std.proofs.lemmas.List.Folds.{list_any-append}
use Rattle.std.specs.List.{list_any}
use Rattle.cedar_ast.specs.contracts.entity_uid.EntityUIDPartialEq.TheImpl as uid_eq
use Rattle.cedar_schema_elements.proofs.SetLemmas.{tied-uid, uid_search}
use Rattle.cedar_schema_elements.proofs.action_node.ValidatorActionIdTCNodeEntityUID.add_edges_to.Goals as goal
use Rattle.cedar_schema_elements.specs.declared.action_id.ActionParts.{ActionParts}

pub joined-requires-clause-equal : goal.joined-requires-clause-equal
joined-requires-clause-equal c item answer ran = tied-uid item ran.shown.now answer ran.shows ran.says.met.0

pub returns-clause-added : goal.returns-clause-added
returns-clause-added c other =
    let eq = (uid_eq.ghosts).eq in
    let keys = c.args.keys.items in
    let old = c.deref.result.now.descendants.keys in
    sym (uid_search other c.in_ok-all.all.keys) ∙ c.in_ok-all.ensures.keys other ∙ uid_search other (keys ++ old)
    ∙ list_any-append (eq other) keys old
    ∙ ap (λ (parts : ActionParts). list_any (eq other) keys || list_any (eq other) parts.descendants.keys) c.deref.ensures
