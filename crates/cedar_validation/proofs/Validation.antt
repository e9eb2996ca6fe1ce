-- A schema whose parts were closed and checked.
use Rattle.std.proofs.Common.{◌≡◌, ◌⊎◌, List, [], inl, inr, map}
use Rattle.cedar_ast.proofs.Chains.{refined}
use Rattle.cedar_validation.proofs.Agreeing.{action_shape, actions_closed, chain_listed, fault_back, fault_forth, listed_chain, type_shape, types_closed}
use Rattle.cedar_validation.specs.Words.{ActionEntity, AreActionEntities, Chain, ClosesAction, ClosesSchema, ClosesType, EntityType, EntityUID, Extensions, Fault, HoldsPairwise, IsClosed, IsSchemaFault, IsValidSchema, ListsDescendantAction, PlainUid, ValidatorActionId, ValidatorEntityType, out_of_memory, plain_action_entry, plain_entry, plain_schema}

abbrev Types : Type 0
Types = List (EntityType × ValidatorEntityType)

abbrev Actions : Type 0
Actions = List (EntityUID × ValidatorActionId)

module _ (types closed_types : Types) (actions closed_actions : Actions) (entities : List ActionEntity)
    (each_type : HoldsPairwise (ClosesType (plain_schema types actions entities)) (map plain_entry types) (map plain_entry closed_types))
    (each_action : HoldsPairwise (ClosesAction (plain_schema types actions entities)) (map plain_action_entry actions)
    (map plain_action_entry closed_actions)) where
  -- a fault of the closed schema is one of the schema
  pub fault_before : (extensions : Extensions) (fault : Fault)
      → (fault ≡ out_of_memory) ⊎ IsSchemaFault extensions (plain_schema closed_types closed_actions []) fault
      → (fault ≡ out_of_memory) ⊎ IsSchemaFault extensions (plain_schema types actions entities) fault
  fault_before extensions fault why =
      let schema = plain_schema types actions entities in
      let closed = plain_schema closed_types closed_actions [] in
      elim why [ inl wanting ↦ inl wanting | inr here ↦ inr (fault_back extensions schema closed each_type each_action fault here) ]

  -- the closed schema is closed, and the schema is valid where it is
  pub valid_before : (extensions : Extensions)
      → ((uid : PlainUid) → ¬ Chain (ListsDescendantAction (plain_schema types actions entities)) uid uid)
      → (IsClosed (plain_schema closed_types closed_actions []) → IsValidSchema extensions (plain_schema closed_types closed_actions []))
      → IsValidSchema extensions (plain_schema types actions entities)
  valid_before extensions acyclic valid fault here =
      let schema = plain_schema types actions entities in
      let closed = plain_schema closed_types closed_actions [] in
      let of_types = types_closed schema closed.entity_types each_type in
      let of_actions = actions_closed schema closed.actions each_action in
      valid
      (record {
        types = λ lower upper chain.
            chain_listed type_shape schema.entity_types closed.entity_types of_types lower upper
            (refined (listed_chain type_shape schema.entity_types closed.entity_types of_types) chain);
        acyclic = λ uid chain. acyclic uid (refined (listed_chain action_shape schema.actions closed.actions of_actions) chain);
      })
      fault (fault_forth extensions schema closed each_type each_action fault here)

  -- with the entities of its actions it closes the schema
  pub closes_before : (made : List ActionEntity) → AreActionEntities (plain_schema closed_types closed_actions made)
      → ClosesSchema (plain_schema types actions entities) (plain_schema closed_types closed_actions made)
  closes_before made are = record { entity_types = each_type; actions = each_action; action_entities = are }
