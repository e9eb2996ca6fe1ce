use Rattle.std.proofs.Common.{◌≡◌, ◌↔◌, List, true, ap, inl, inr, refl, subst, sym}
use Rattle.cedar_graph.specs.declared.table_fault.TableFault.TheVariants as refused
use Rattle.cedar_schema_elements.specs.ActionKind.{plain_kind}
use Rattle.cedar_validation.proofs.ListedEntries.{closed_plain, leads_alike, lists_plain, none_plain}
use Rattle.cedar_validation.proofs.closing.closed_actions.Goals as goal
use Rattle.cedar_validation.specs.Words.{ActionEntity, Chain, ClosesAction, EntityType, EntityUID, Fault, IsListFault, IsValidationFault, IsSchemaFault, DescendsTo, ListsDescendantAction, PlainUid, TableFault, ValidatorActionId, ValidatorEntityType, action_cycle, action_graph_fault, action_of, fault_of, plain_action_entry, plain_schema, uid_of, undeclared_action_descendant}

module _ (types : List (EntityType × ValidatorEntityType)) (actions : List (EntityUID × ValidatorActionId)) (entities : List ActionEntity) where
  -- chains of what actions list lead to the same uids in the schema
  leads : (lower upper : PlainUid) → DescendsTo uid_of (λ node. (action_of node).descendants) actions lower upper
      ↔ Chain (ListsDescendantAction (plain_schema types actions entities)) lower upper
  leads = leads_alike uid_of (λ node. (action_of node).descendants) plain_action_entry (λ it. it.descendants) (λ e. refl) (λ e. refl) actions

  -- why the closure of actions is refused is why the schema is
  refused_fault : (error : TableFault EntityUID) (fault : Fault) → fault ≡ action_graph_fault error
      → IsListFault uid_of (λ node. (action_of node).descendants) actions true error → IsValidationFault (plain_schema types actions entities) fault
  refused_fault (refused.HasCycle key) fault is why = inr (λ extensions.
      let cycle : IsSchemaFault extensions (plain_schema types actions entities) (action_cycle (uid_of key)) =
      (leads (uid_of key) (uid_of key)).0 why.1 in
      subst (IsSchemaFault extensions (plain_schema types actions entities)) (sym is) cycle)
  refused_fault (refused.Lacks key) fault is why = inr (λ extensions.
      let lacks : IsSchemaFault extensions (plain_schema types actions entities) (undeclared_action_descendant (uid_of key)) = (
        why.0.0,
        lists_plain uid_of (λ node. (action_of node).descendants) plain_action_entry (λ it. it.descendants) (λ e. refl) (λ e. refl) actions
            (uid_of key) why.0.0 why.0.1,
        none_plain uid_of plain_action_entry (λ e. refl) actions (uid_of key) why.1,
      ) in
      subst (IsSchemaFault extensions (plain_schema types actions entities)) (sym is) lacks)
  refused_fault refused.Memory fault is why = inl is

pub returns-in-Ok-clause-closed : goal.returns-in-Ok-clause-closed
returns-in-Ok-clause-closed c = λ types entities.
    closed_plain uid_of (λ node. (action_of node).descendants) plain_action_entry (λ it. it.descendants) (λ e. refl) (λ e. refl)
    c.args.actions.entries _ c.in-Ok.closed.entries c.in-Ok.ensures.closed
    (ClosesAction (plain_schema types c.args.actions.entries entities))
    (λ it other key alike leads. record { key = key; uid = ap uid_of alike.0; kind = ap plain_kind alike.1; descendants = leads })

pub returns-in-Ok-clause-acyclic : goal.returns-in-Ok-clause-acyclic
returns-in-Ok-clause-acyclic c = λ types entities uid chain.
    c.in-Ok.ensures.acyclic refl uid ((leads types c.args.actions.entries entities uid uid).1 chain)

pub returns-in-Err-clause-fault : goal.returns-in-Err-clause-fault
returns-in-Err-clause-fault c = λ types entities.
    refused_fault types c.args.actions.entries entities c.in-Err.refused (fault_of c.action_refusal.result)
    c.action_refusal.ensures c.in-Err.ensures.fault
