-- A schema, and copies of its entity types and actions: a fault of the one is a fault of the other,
-- and what closes the one closes the other.
use Rattle.std.proofs.Common.{◌≡◌, ◌↔◌, ◌∙◌, List, map, sym, Contains}
use Rattle.cedar_ast.proofs.TurnLemmas.{turn_weaker}
use Rattle.cedar_validation.proofs.Agreeing.{IsAlike, Lists, Shape, action_shape, agrees_alike, alike_back, chain_forth, fault_carried, type_shape}
use Rattle.cedar_validation.proofs.Pairwise.{pairwise_joined, pairwise_map}
use Rattle.cedar_validation.specs.Words.{ActionEntity, Chain, ClosesAction, ClosesSchema, ClosesType, EntityType, EntityUID, Extensions, Fault, HoldsPairwise, IsActionCopied, IsSchemaFault, IsTypeCopied, IsValidSchema, PlainSchema, ValidatorActionId, ValidatorEntityType, plain_action_entry, plain_entry, plain_schema}

-- an item and another are alike and have one name of their own
record IsNamedAlike {P Q T : Type 0} (shape : Shape P Q T) (own : Q → P) (it other : P × Q) : Type 0 where
  pub alike : IsAlike shape it other
  pub named : own it.1 ≡ own other.1

-- copies of entity types are alike
types_alike : (types copies : List (EntityType × ValidatorEntityType)) → HoldsPairwise IsTypeCopied types copies
    → HoldsPairwise (IsNamedAlike type_shape (λ it. it.name)) (map plain_entry types) (map plain_entry copies)
types_alike types copies turn =
    pairwise_map (IsNamedAlike type_shape (λ it. it.name)) plain_entry plain_entry types copies
    (turn_weaker IsTypeCopied (λ it copy. IsNamedAlike type_shape (λ it. it.name) (plain_entry it) (plain_entry copy))
    (λ it copy is.
    record {
      alike = record {
        key = sym is.same.key;
        kind = sym is.same.kind;
        listed = λ lower. ((is.same.descendants lower).1, (is.same.descendants lower).0);
      };
      named = sym is.same.name;
    })
    types copies turn)

-- so are copies of actions
actions_alike : (actions copies : List (EntityUID × ValidatorActionId)) → HoldsPairwise IsActionCopied actions copies
    → HoldsPairwise (IsNamedAlike action_shape (λ it. it.uid)) (map plain_action_entry actions) (map plain_action_entry copies)
actions_alike actions copies turn =
    pairwise_map (IsNamedAlike action_shape (λ it. it.uid)) plain_action_entry plain_action_entry actions copies
    (turn_weaker IsActionCopied (λ it copy. IsNamedAlike action_shape (λ it. it.uid) (plain_action_entry it) (plain_action_entry copy))
    (λ it copy is.
    record {
      alike = record {
        key = sym is.same.key;
        kind = sym is.requests;
        listed = λ lower. ((is.same.descendants lower).1, (is.same.descendants lower).0);
      };
      named = sym is.same.uid;
    })
    actions copies turn)

-- what is alike and has one name of its own is alike
only_alike : {P Q T : Type 0} (shape : Shape P Q T) (own : Q → P) (items others : List (P × Q))
    → HoldsPairwise (IsNamedAlike shape own) items others → HoldsPairwise (IsAlike shape) items others
only_alike shape own = turn_weaker (IsNamedAlike shape own) (IsAlike shape) (λ it other is. is.alike)

-- what chains of the others lead to chains of the items lead to
leads_alike : {P Q T : Type 0} (shape : Shape P Q T) (items others : List (P × Q)) → HoldsPairwise (IsAlike shape) items others
    → (key other : P) (names : List P) → key ≡ other
    → ((lower : P) → Contains names lower ↔ Chain (Lists shape others) lower other)
    → (lower : P) → Contains names lower ↔ Chain (Lists shape items) lower key
leads_alike shape items others alike key other names same leads lower = (
  λ among. rw (sym same) at (chain_forth shape others items (alike_back shape items others alike) lower other ((leads lower).0 among)),
  λ chain. (leads lower).1 (rw same at (chain_forth shape items others alike lower key chain)),
)

module _ (types type_copies : List (EntityType × ValidatorEntityType)) (actions action_copies : List (EntityUID × ValidatorActionId))
    (of_types : HoldsPairwise IsTypeCopied types type_copies) (of_actions : HoldsPairwise IsActionCopied actions action_copies)
    (entities : List ActionEntity) where
  abbrev pub Given : PlainSchema
  Given = plain_schema types actions entities

  abbrev pub Copied : PlainSchema
  Copied = plain_schema type_copies action_copies entities

  alike_types : HoldsPairwise (IsAlike type_shape) (map plain_entry types) (map plain_entry type_copies)
  alike_types = only_alike type_shape (λ it. it.name) (map plain_entry types) (map plain_entry type_copies) (types_alike types type_copies of_types)

  alike_actions : HoldsPairwise (IsAlike action_shape) (map plain_action_entry actions) (map plain_action_entry action_copies)
  alike_actions =
      only_alike action_shape (λ it. it.uid) (map plain_action_entry actions) (map plain_action_entry action_copies)
      (actions_alike actions action_copies of_actions)

  -- a fault of the copy is one of the schema
  pub fault_of_copy : (extensions : Extensions) (fault : Fault) → IsSchemaFault extensions Copied fault
      → IsSchemaFault extensions Given fault
  fault_of_copy extensions =
      fault_carried extensions Copied Given
      (agrees_alike type_shape Copied.entity_types Given.entity_types
      (alike_back type_shape Given.entity_types Copied.entity_types alike_types))
      (agrees_alike action_shape Copied.actions Given.actions
      (alike_back action_shape Given.actions Copied.actions alike_actions))

  -- where the copy is valid, so is the schema
  pub valid_as_copy : (extensions : Extensions) → IsValidSchema extensions Copied → IsValidSchema extensions Given
  valid_as_copy extensions valid fault here =
      valid fault (fault_carried extensions Given Copied
      (agrees_alike type_shape Given.entity_types Copied.entity_types alike_types)
      (agrees_alike action_shape Given.actions Copied.actions alike_actions) fault here)

  -- what closes the copy closes the schema
  pub closes_as_copy : (closed : PlainSchema) → ClosesSchema Copied closed → ClosesSchema Given closed
  closes_as_copy closed closes = record {
    entity_types =
        pairwise_joined (IsNamedAlike type_shape (λ it. it.name)) (ClosesType Copied) (ClosesType Given)
        (λ it copy other alike is.
        record {
          key = alike.alike.key ∙ is.key;
          name = alike.named ∙ is.name;
          kind = alike.alike.kind ∙ is.kind;
          descendants = leads_alike type_shape Given.entity_types Copied.entity_types alike_types it.0 copy.0 other.1.descendants
              alike.alike.key is.descendants;
        })
        Given.entity_types Copied.entity_types closed.entity_types (types_alike types type_copies of_types) closes.entity_types;
    actions =
        pairwise_joined (IsNamedAlike action_shape (λ it. it.uid)) (ClosesAction Copied) (ClosesAction Given)
        (λ it copy other alike is.
        record {
          key = alike.alike.key ∙ is.key;
          uid = alike.named ∙ is.uid;
          kind = alike.alike.kind ∙ is.kind;
          descendants = leads_alike action_shape Given.actions Copied.actions alike_actions it.0 copy.0 other.1.descendants
              alike.alike.key is.descendants;
        })
        Given.actions Copied.actions closed.actions (actions_alike actions action_copies of_actions) closes.actions;
    action_entities = closes.action_entities;
  }
