-- A schema that closes a closed one: what is at fault in it, and what it closes.
use Rattle.std.proofs.Common.{◌∙◌}
use Rattle.cedar_validation.proofs.Agreeing.{action_shape, actions_closed, fault_back as closed_fault, leads_back, type_shape, types_closed}
use Rattle.cedar_validation.proofs.Pairwise.{pairwise_joined}
use Rattle.cedar_validation.specs.Words.{ClosesAction, ClosesSchema, ClosesType, Extensions, Fault, IsSchemaFault, PlainName, PlainSchema, PlainUid, SchemaAction, SchemaEntityType}

module _ (schema closed : PlainSchema) (closes : ClosesSchema schema closed) where
  -- what is at fault in the closed one is at fault
  pub fault_back : (extensions : Extensions) (fault : Fault) → IsSchemaFault extensions closed fault → IsSchemaFault extensions schema fault
  fault_back extensions = closed_fault extensions schema closed closes.entity_types closes.actions

  module _ (again : PlainSchema) (onwards : ClosesSchema closed again) where
    -- what closes the closed one has what a chain reaches in the first
    type_again : (it other last : PlainName × SchemaEntityType) → ClosesType schema it other → ClosesType closed other last
        → ClosesType schema it last
    type_again it other last first second = record {
      key = first.key ∙ second.key;
      name = first.name ∙ second.name;
      kind = first.kind ∙ second.kind;
      descendants = leads_back type_shape schema.entity_types closed.entity_types
          (types_closed schema closed.entity_types closes.entity_types) it.0 other.0 last.1.descendants first.key second.descendants;
    }

    action_again : (it other last : PlainUid × SchemaAction) → ClosesAction schema it other → ClosesAction closed other last
        → ClosesAction schema it last
    action_again it other last first second = record {
      key = first.key ∙ second.key;
      uid = first.uid ∙ second.uid;
      kind = first.kind ∙ second.kind;
      descendants = leads_back action_shape schema.actions closed.actions (actions_closed schema closed.actions closes.actions)
          it.0 other.0 last.1.descendants first.key second.descendants;
    }

    -- so it closes the first
    pub closes_again : ClosesSchema schema again
    closes_again = record {
      entity_types =
          pairwise_joined (ClosesType schema) (ClosesType closed) (ClosesType schema) type_again schema.entity_types closed.entity_types
          again.entity_types closes.entity_types onwards.entity_types;
      actions =
          pairwise_joined (ClosesAction schema) (ClosesAction closed) (ClosesAction schema) action_again schema.actions closed.actions
          again.actions closes.actions onwards.actions;
      action_entities = onwards.action_entities;
    }
