-- The entity types and the actions of a schema as plain data, and what is made sure of them.
use Rattle.std.specs.Prelude.{◌≡◌, ◌⊎◌, ◌∷◌, List, [], map}
use Rattle.cedar_ast.specs.Words.{Chain, PlainName, PlainUid, type_name, uid_of}
use Rattle.cedar_ast.specs.declared.entity_type.EntityType.{EntityType}
use Rattle.cedar_ast.specs.declared.entity_uid.EntityUID.{EntityUID}
use Rattle.cedar_ast.specs.declared.extension.Extensions.{Extensions}
use Rattle.cedar_graph.specs.declared.table_fault.TableFault.{TableFault}
use Rattle.cedar_graph.specs.declared.table_fault.TableFault.TheVariants as refused
use Rattle.cedar_schema_elements.specs.Words.{plain_entry, schema_listing, schema_with}
use Rattle.cedar_schema_elements.specs.declared.action_id.ValidatorActionId.{ValidatorActionId}
use Rattle.cedar_schema_elements.specs.declared.entity_type.ValidatorEntityType.{ValidatorEntityType}
use Rattle.cedar_schema_semantics.specs.Words.{ActionEntity, Fault, IsSchemaFault, ListsDescendant, ListsDescendantAction, PlainSchema, action_cycle, out_of_memory, undeclared_action_descendant, undeclared_entity_types}
use Rattle.cedar_validation.specs.declared.parts.Parts.{Parts}

-- the schema of some entity types, some actions, and these entities of actions
abbrev pub plain_schema : List (EntityType × ValidatorEntityType)
    → List (EntityUID × ValidatorActionId) → List ActionEntity → PlainSchema
plain_schema types actions entities = schema_with (map plain_entry types) actions entities

-- the schema of some entity types and some actions, with the entities of these
abbrev pub whole_schema : List (EntityType × ValidatorEntityType)
    → List (EntityUID × ValidatorActionId) → PlainSchema
whole_schema types actions = schema_listing (map plain_entry types) actions

-- the schema of entity types and actions, without entities of actions
abbrev pub plain_parts : Parts → PlainSchema
plain_parts parts = plain_schema parts.entity_types.entries parts.actions.entries []

-- why a schema is refused: memory ran out, or the fault is one of it, whatever extensions are
-- handed in
abbrev pub IsValidationFault : PlainSchema → Fault → Type 0
IsValidationFault schema fault = (fault ≡ out_of_memory)
    ⊎ ((extensions : Extensions) → IsSchemaFault extensions schema fault)

-- descendants are closed: what chains of them lead to is listed; and no action is on a cycle
pub record IsClosed (schema : PlainSchema) : Type 0 where
  pub types : (lower upper : PlainName) → Chain (ListsDescendant schema) lower upper
      → ListsDescendant schema lower upper
  pub acyclic : (uid : PlainUid) → ¬ Chain (ListsDescendantAction schema) uid uid

-- why the descendants of entity types can't be closed, as plain data; that an entity type is on a
-- cycle is no reason
abbrev pub type_graph_fault : TableFault EntityType → Fault
type_graph_fault (refused.Lacks key) = undeclared_entity_types (type_name key ∷ [])
type_graph_fault _ = out_of_memory

-- why those of actions can't
abbrev pub action_graph_fault : TableFault EntityUID → Fault
action_graph_fault (refused.HasCycle key) = action_cycle (uid_of key)
action_graph_fault (refused.Lacks key) = undeclared_action_descendant (uid_of key)
action_graph_fault refused.Memory = out_of_memory
