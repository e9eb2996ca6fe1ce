-- What the private steps promise of actions as nodes of a graph, which stand under their uids.
use Rattle.std.specs.List.{list_any}
use Rattle.std.specs.Prelude.{◌≡◌, ◌⊎◌, ◌↔◌, Bool, List, [], Option}
use Rattle.cedar_ast.specs.Words.{Chain, PlainUid, uid_of}
use Rattle.cedar_ast.specs.contracts.entity_uid.EntityUIDPartialEq.TheImpl as uid_eq
use Rattle.cedar_ast.specs.declared.entity_uid.EntityUID.{EntityUID}
use Rattle.cedar_builder.specs.ActionSteps.{IsElaboratedKind}
use Rattle.cedar_builder.specs.DeclaredNodes.{Leads, at_key}
use Rattle.cedar_elaboration.specs.declared.type_scope.TypeScope.{TypeScope}
use Rattle.cedar_graph.specs.Edges.{IsEdgeIn, AreAlike}
use Rattle.cedar_schema_ast.specs.ActionBody.{Requests}
use Rattle.cedar_schema_elements.specs.ValidatorActionId.{action_of, parts_of}
use Rattle.cedar_schema_elements.specs.declared.action_id.ValidatorActionId.{ValidatorActionId}
use Rattle.cedar_schema_semantics.specs.Fault.{Fault, action_cycle, out_of_memory}

-- the action is what a declaration of the uid says alone, and has no descendants
pub record IsElaboratedAction (scope : TypeScope) (stated : PlainUid) (applies_to : Requests)
    (it : ValidatorActionId) : Type 0 where
  pub uid : (action_of it).uid ≡ stated
  pub kind : IsElaboratedKind scope applies_to (action_of it).kind
  pub no_descendants : (action_of it).descendants ≡ []

-- whether the one action is among the descendants of the other
abbrev pub has_descendant : ValidatorActionId → EntityUID → Bool
has_descendant it lower = list_any ((uid_eq.ghosts).eq lower) (parts_of it).descendants.keys

-- what stands at a key among entries
abbrev pub node_at : List (EntityUID × ValidatorActionId) → EntityUID → Option ValidatorActionId
node_at nodes key = at_key (uid_eq.ghosts).eq nodes key

-- the node at the first key has the second among its descendants
abbrev pub ActionLeadsTo : List (EntityUID × ValidatorActionId) → EntityUID → EntityUID → Type 0
ActionLeadsTo nodes upper lower = Leads (uid_eq.ghosts).eq has_descendant nodes upper lower

-- the one is a parent of the other by some edge
abbrev pub IsAbove : List (EntityUID × EntityUID) → EntityUID → EntityUID → Type 0
IsAbove = IsEdgeIn (uid_eq.ghosts).eq

-- actions are the same but for their descendants and locations
abbrev pub SameAction : ValidatorActionId → ValidatorActionId → Type 0
SameAction before after = ((action_of before).uid ≡ (action_of after).uid)
    × ((action_of before).kind ≡ (action_of after).kind)

-- what stands at a key before and after are such actions, or none
abbrev pub AreTheSame : Option ValidatorActionId → Option ValidatorActionId → Type 0
AreTheSame = AreAlike SameAction

-- after as before, but for descendants, which are now those that chains of edges lead to; and no
-- chain is a cycle
pub record AreLinked (edges : List (EntityUID × EntityUID))
    (before after : List (EntityUID × ValidatorActionId)) : Type 0 where
  pub same : (key : EntityUID) → AreTheSame (node_at before key) (node_at after key)
  pub linked : (upper lower : EntityUID)
      → ActionLeadsTo after upper lower ↔ Chain (IsAbove edges) upper lower
  pub acyclic : (key : EntityUID) → ¬ Chain (IsAbove edges) key key

-- why edges are refused: a chain of them is a cycle; or memory ran out
abbrev pub IsLinkingFault : List (EntityUID × EntityUID) → Fault → Type 0
IsLinkingFault edges fault = (fault ≡ out_of_memory)
    ⊎ ((key : EntityUID) × (fault ≡ action_cycle (uid_of key)) × Chain (IsAbove edges) key key)
