-- The bag of a valid schema that is converted back declares the schema with its descendants closed.
use Rattle.std.proofs.Common.{◌≡◌, List, [], ◌∷◌, Option, map, sym, ◌∙◌, refl, Contains, inl, inr}
use Rattle.cedar_ast.proofs.Basics.{Contains-image}
use Rattle.cedar_ast.proofs.PlainNames.{name_cmp-total, uid_cmp-total}
use Rattle.cedar_schema_laws.proofs.EntriesConvertedBack.{IsActionWritten, IsTypeWritten, action_declared, declared_action_from, declared_type_from, same_types, same_uids, type_declared}
use Rattle.cedar_schema_laws.proofs.KindsConvertedBack.{action_kind_declared, kind_declared}
use Rattle.cedar_schema_laws.proofs.ParentsConvertedBack.{same_action_descendants, same_descendants}
use Rattle.cedar_schema_laws.specs.Words.{ActionBody, ActionKind, ActionSays, AreRequestsWritten, Bag, ClosesAction, ClosesType, ConvertedDescendantsAreReached, ConvertedSchemasAreDeclared, EntityBody, EntitySays, EntityTypeKind, Extensions, HoldsPairwise, IsConvertedBack, IsDeclaredAction, IsDeclaredEntityType, IsExternal, IsInOrder, IsKindWritten, IsValidSchema, IsWritable, ListsDescendant, PlainName, PlainSchema, PlainUid, Requests, SchemaAction, SchemaEntityType, declared_actions, declared_entities, defined_action, defined_actions, defined_entities, elsewhere, enumerated, enumerated_kind, external, external_action, external_kind, name_cmp, requests, standard, standard_kind, uid_cmp}
use Rattle.cedar_schema_semantics.proofs.OccurrenceLemmas.{Twice-sorted_by_name, value_once, Contains-entry}
use Rattle.cedar_schema_semantics.proofs.TogetherLemmas.{AreRequests, IsDefinition, action_definition_declared, action_definition_says, declared_action_definition, declared_definition, definition_declared, definition_or_external, definition_says, requests_or_elsewhere}
use Rattle.cedar_schema_semantics.proofs.TurnLemmas.{turn_back, turn_forth}

module _ (namespace : Option PlainName) where
  -- what is written as external is
  pub external_written : (IsAbove : PlainName → Type 0) (kind : EntityTypeKind) (parents : List _)
      → IsKindWritten namespace IsAbove kind (external parents) → IsExternal kind
  external_written IsAbove external_kind parents is = tt
  external_written IsAbove _ parents is = absurd is

  -- what is written as defined isn't external
  defined_written : (IsAbove : PlainName → Type 0) (kind : EntityTypeKind) (body : EntityBody) → IsKindWritten namespace IsAbove kind body
      → IsDefinition body → ¬ IsExternal kind
  defined_written IsAbove (standard_kind fields openness tags) body is definition other = other
  defined_written IsAbove (enumerated_kind choices) body is definition other = other
  defined_written IsAbove external_kind (standard parents shape tags) is definition other = is
  defined_written IsAbove external_kind (enumerated ids) is definition other = is
  defined_written IsAbove external_kind (external parents) is definition other = definition

  -- an action that is written as external isn't also written as defined
  requests_written_once : (kind : ActionKind) (applies_to : Requests) → AreRequests applies_to
      → AreRequestsWritten namespace kind applies_to → (other : Option PlainName) → ¬ AreRequestsWritten other kind elsewhere
  requests_written_once (defined_action ps rs ty) applies_to are is other is' = is'
  requests_written_once external_action (requests principals resources context) are is other is' = is
  requests_written_once external_action elsewhere are is other is' = are

module _ (schema : PlainSchema) (bag : Bag) (extensions : Extensions) (order : IsInOrder schema)
    (written : IsConvertedBack schema bag) where
  -- an entity type of the schema has one entry
  one_type : (name : PlainName) (it other : SchemaEntityType) → Contains schema.entity_types (name, it)
      → Contains schema.entity_types (name, other) → it ≡ other
  one_type =
      value_once schema.entity_types
      (λ name twice. Twice-sorted_by_name name_cmp name_cmp-total (map (λ it. it.0) schema.entity_types) name order.entity_types twice)

  -- so has an action
  one_action : (uid : PlainUid) (it other : SchemaAction) → Contains schema.actions (uid, it) → Contains schema.actions (uid, other)
      → it ≡ other
  one_action =
      value_once schema.actions
      (λ uid twice. Twice-sorted_by_name uid_cmp uid_cmp-total (map (λ it. it.0) schema.actions) uid order.actions twice)

  -- an entity type of the schema that is external has no definition
  pub external_undefined : (name : PlainName) (it : SchemaEntityType) → Contains schema.entity_types (name, it) → IsExternal it.kind
      → ¬ Contains (map (λ each. each.0) (defined_entities bag)) name
  external_undefined name it there is_external among =
      let found = Contains-entry (defined_entities bag) name among in
      let definition = definition_declared bag name found.0 found.1 in
      let from = declared_type_from schema bag written name found.0 definition.0 in
      let entry = from.2 in
      defined_written entry.namespace (λ upper. ListsDescendant schema name upper) from.0.kind found.0 entry.kind definition.1
      (rw (one_type name it from.0 there from.1) at is_external)

  -- what is declared of an entity type of the schema is what is said of it
  type_said : (it : PlainName × SchemaEntityType) → Contains schema.entity_types it → (body : EntityBody)
      → Contains (declared_entities bag) (it.0, body) → IsTypeWritten schema it body → EntitySays bag it.0 body
  type_said it there body among entry =
      elim (definition_or_external body) [
        | inl definition ↦ definition_says bag it.0 body (declared_definition bag it.0 body definition among)
        | inr is_external ↦
            let kind = external_written entry.namespace (λ upper. ListsDescendant schema it.0 upper) it.1.kind is_external.0
            (rw is_external.1 at entry.kind) in
            rw is_external.1 (
              Contains-image (λ (each : PlainName × EntityBody). each.0) (declared_entities bag) (it.0, body) among,
              external_undefined it.0 it.1 there kind,
            )
      ]

  -- an action of the schema that is written as external has no definition
  elsewhere_undefined : (uid : PlainUid) (it : SchemaAction) → Contains schema.actions (uid, it) → (namespace : Option PlainName)
      → AreRequestsWritten namespace it.kind elsewhere → ¬ Contains (map (λ each. each.0) (defined_actions bag)) uid
  elsewhere_undefined uid it there namespace is among =
      let found = Contains-entry (defined_actions bag) uid among in
      let definition = action_definition_declared bag uid found.0 found.1 in
      let from = declared_action_from schema bag written uid definition.0 definition.1 in
      let entry = from.2 in
      requests_written_once entry.namespace from.0.kind found.0 definition.3 (rw definition.2 at entry.applies_to) namespace
      (rw (one_action uid it from.0 there from.1) at is)

  -- what is declared of an action of the schema is what is said of it
  action_said : (it : PlainUid × SchemaAction) → Contains schema.actions it → (body : ActionBody)
      → Contains (declared_actions bag) (it.0, body) → IsActionWritten schema it body → ActionSays bag it.0 body.applies_to
  action_said it there body among entry =
      elim (requests_or_elsewhere body.applies_to) [
        | inl are ↦
            action_definition_says bag it.0 body.applies_to (declared_action_definition bag it.0 body body.applies_to among refl are)
        | inr is_elsewhere ↦
            rw is_elsewhere (
              Contains-image (λ (each : PlainUid × ActionBody). each.0) (declared_actions bag) (it.0, body) among,
              elsewhere_undefined it.0 it.1 there entry.namespace (rw is_elsewhere at entry.applies_to),
            )
      ]

  module _ (writable : IsWritable schema) (valid : IsValidSchema extensions schema) where
    -- an entity type of the schema, closed, is the declared one
    closed_type_declared : (it closed : PlainName × SchemaEntityType) → Contains schema.entity_types it → it.1.name ≡ it.0
        → ClosesType schema it closed → IsDeclaredEntityType bag extensions closed
    closed_type_declared it closed there named closes =
        let found = type_declared schema bag written it there in
        record {
          body = found.0;
          says = rw (← closes.key) (type_said it there found.0 found.1 found.2);
          name = sym closes.name ∙ (named ∙ closes.key);
          kind = rw (← closes.kind) (kind_declared schema bag extensions writable written valid it there found.0 found.2);
          descendants = λ lower.
              let same = same_descendants schema bag extensions writable written lower it.0 in
              let reached = closes.descendants lower in
              rw (← closes.key) (λ among. same.1 (reached.0 among), λ below. reached.1 (same.0 below));
        }

    -- an action of the schema, closed, is the declared one
    closed_action_declared : (it closed : PlainUid × SchemaAction) → Contains schema.actions it → it.1.uid ≡ it.0
        → ClosesAction schema it closed → IsDeclaredAction bag extensions closed
    closed_action_declared it closed there named closes =
        let found = action_declared schema bag written it there in
        record {
          applies_to = found.0.applies_to;
          says = rw (← closes.key) (action_said it there found.0 found.1 found.2);
          uid = sym closes.uid ∙ (named ∙ closes.key);
          kind = rw (← closes.kind) (action_kind_declared schema bag extensions writable written valid it there found.0 found.2);
          descendants = λ lower.
              let same = same_action_descendants schema bag extensions writable written lower it.0 in
              let reached = closes.descendants lower in
              rw (← closes.key) (λ among. same.1 (reached.0 among), λ below. reached.1 (same.0 below));
        }

-- where entries hold pairwise under the same keys, these are the same
same_keys : {K V W : Type 0} (R : K × V → K × W → Type 0) → ((it : K × V) (other : K × W) → R it other → it.0 ≡ other.0)
    → (xs : List (K × V)) (ys : List (K × W)) → HoldsPairwise R xs ys → map (λ it. it.0) xs ≡ map (λ it. it.0) ys
same_keys R key [] [] turn = refl
same_keys R key (x ∷ xs) (y ∷ ys) turn = λ i. key x y turn.0 i ∷ same_keys R key xs ys turn.1 i
same_keys R key _ _ turn = absurd turn

-- so the bag declares the schema closed
pub converted_schemas_are_declared : ConvertedSchemasAreDeclared
converted_schemas_are_declared schema closed bag extensions order named writable valid written closes =
    let types = same_keys (ClosesType schema) (λ it other is. is.key) schema.entity_types closed.entity_types closes.entity_types in
    let actions = same_keys (ClosesAction schema) (λ it other is. is.key) schema.actions closed.actions closes.actions in record {
      entity_types = λ it among.
          let from = turn_forth (λ (y : PlainName × SchemaEntityType) (x : PlainName × SchemaEntityType). ClosesType schema x y)
          closed.entity_types schema.entity_types
          (turn_back (ClosesType schema) (λ (y : PlainName × SchemaEntityType) (x : PlainName × SchemaEntityType). ClosesType schema x y)
          (λ x y is. is) schema.entity_types closed.entity_types closes.entity_types) it among in
          closed_type_declared schema bag extensions order written writable valid from.0 it from.1
          (named.entity_types from.0 from.1) from.2;
      each_entity_type = λ name among. rw types at ((same_types schema bag written name).0 among);
      entity_types_in_order = rw types at order.entity_types;
      actions = λ it among.
          let from = turn_forth (λ (y : PlainUid × SchemaAction) (x : PlainUid × SchemaAction). ClosesAction schema x y)
          closed.actions schema.actions
          (turn_back (ClosesAction schema) (λ (y : PlainUid × SchemaAction) (x : PlainUid × SchemaAction). ClosesAction schema x y)
          (λ x y is. is) schema.actions closed.actions closes.actions) it among in
          closed_action_declared schema bag extensions order written writable valid from.0 it from.1
          (named.actions from.0 from.1) from.2;
      each_action = λ uid among. rw actions at ((same_uids schema bag written uid).0 among);
      actions_in_order = rw actions at order.actions;
      action_entities = closes.action_entities;
    }

-- and descendants are those that are reached
pub converted_descendants_are_reached : ConvertedDescendantsAreReached
converted_descendants_are_reached schema bag extensions writable written =
    (same_descendants schema bag extensions writable written, same_action_descendants schema bag extensions writable written)
