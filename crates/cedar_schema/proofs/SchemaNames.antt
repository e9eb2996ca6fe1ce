-- What is known of the names of every schema: they are sorted, entity types and actions stand under
-- their own, and none is reserved.
use Rattle.std.proofs.Common.{◌≡◌, ◌∙◌, ◌∷◌, [], Contains, List, inl, inr, map, refl, subst, sym}
use Rattle.std.proofs.Math.Logic.{∥∥₁_elim}
use Rattle.std.proofs.Props.{props}
use Rattle.std.specs.List.Sorted.{IsStrictlySortedBy}
use Rattle.std.specs.Map.{keys_of}
use Rattle.cedar_ast.proofs.Basics.{Contains-image}
use Rattle.cedar_ast.proofs.Lists.{Contains-cons, Contains-preimage}
use Rattle.cedar_ast.proofs.Names.{entity_type_ord-name_cmp}
use Rattle.cedar_ast.proofs.Ordered.{IsStrictlySortedBy-map}
use Rattle.cedar_ast.proofs.PlainNames.{name_cmp-Equal, uid_cmp-Equal}
use Rattle.cedar_ast.proofs.Uids.{entity_uid_ord-uid_cmp}
use Rattle.cedar_ast.specs.contracts.entity_type.EntityTypeOrd.TheImpl as entity_type_ord
use Rattle.cedar_ast.specs.contracts.entity_uid.EntityUIDOrd.TheImpl as entity_uid_ord
use Rattle.cedar_schema.specs.Words.{ActionEntity, AreActionEntities, ClosesAction, ClosesSchema, ClosesType, EntityType, EntityUID, HasNoReservedName, HoldsPairwise, IsInOrder, PlainName, PlainSchema, PlainUid, SameAction, SameEntityType, SchemaAction, SchemaEntityType, StandsUnderItsNames, ValidatorActionId, ValidatorEntityType, ValidatorSchema, action_of, entity_type_of, name_cmp, plain_action_entry, plain_entry, reserved_word, schema_listing, schema_of, schema_with, type_name, uid_cmp, uid_of}
use Rattle.cedar_schema_elements.proofs.ListedEntities.{listed_are}
use Rattle.cedar_schema_semantics.proofs.TurnLemmas.{turn_forth}
use Rattle.cedar_validation.proofs.Keyed.{key_of_uid, named_key, names_of_keys}
use Rattle.cedar_validation.proofs.Pairwise.{pairwise_back}

abbrev Types : Type 0
Types = List (EntityType × ValidatorEntityType)

abbrev Actions : Type 0
Actions = List (EntityUID × ValidatorActionId)

-- names of entity types that are keys in order are sorted
pub names_of_types_sorted : (types : Types) → IsStrictlySortedBy ((entity_type_ord.ghosts).cmp) (keys_of types)
    → IsStrictlySortedBy name_cmp (map type_name (keys_of types))
names_of_types_sorted types =
    IsStrictlySortedBy-map ((entity_type_ord.ghosts).cmp) name_cmp type_name entity_type_ord-name_cmp (keys_of types)

-- uids of actions that are keys in order are sorted
pub uids_of_actions_sorted : (actions : Actions) → IsStrictlySortedBy ((entity_uid_ord.ghosts).cmp) (keys_of actions)
    → IsStrictlySortedBy uid_cmp (map uid_of (keys_of actions))
uids_of_actions_sorted actions =
    IsStrictlySortedBy-map ((entity_uid_ord.ghosts).cmp) uid_cmp uid_of entity_uid_ord-uid_cmp (keys_of actions)

-- what is held by maps whose keys are sorted without duplicates is in order
pub schema_in_order : (types : Types) (actions : Actions) (entities : List ActionEntity)
    → IsStrictlySortedBy ((entity_type_ord.ghosts).cmp) (keys_of types)
    → IsStrictlySortedBy ((entity_uid_ord.ghosts).cmp) (keys_of actions)
    → IsInOrder (schema_with (map plain_entry types) actions entities)
schema_in_order types actions entities names uids = record {
  entity_types =
      subst (IsStrictlySortedBy name_cmp) (sym (names_of_keys type_name plain_entry (λ e. refl) types))
      (names_of_types_sorted types names);
  actions =
      subst (IsStrictlySortedBy uid_cmp) (sym (names_of_keys uid_of plain_action_entry (λ e. refl) actions))
      (uids_of_actions_sorted actions uids);
}

-- every schema is in order
pub known_order : (schema : ValidatorSchema) → IsInOrder (schema_of schema)
known_order schema = record {
  entity_types = ∥∥₁_elim schema.content.in_order (Prim.hlevel props) (λ order. order.entity_types);
  actions = ∥∥₁_elim schema.content.in_order (Prim.hlevel props) (λ order. order.actions);
}

-- the entities that a schema lists are those of its actions
pub entities_known : (schema : ValidatorSchema) → AreActionEntities (schema_of schema)
entities_known schema =
    listed_are (map plain_entry schema.content.tables.entity_types.entries) schema.content.tables.actions.entries (known_order schema).actions

-- actions that are pairwise the same stand under the same uids
same_keys : (actions others : List (PlainUid × SchemaAction)) → HoldsPairwise SameAction actions others
    → map (λ it. it.0) actions ≡ map (λ it. it.0) others
same_keys [] [] same = refl
same_keys (it ∷ actions) (other ∷ others) same = let rest = same_keys actions others same.1 in λ i. same.0.key i ∷ rest i
same_keys _ _ same = absurd same

-- and so are those of a copy of its actions
pub entities_of_copy : (schema : ValidatorSchema) (types : List (PlainName × SchemaEntityType)) (actions : Actions)
    → HoldsPairwise SameAction (map plain_action_entry actions) (schema_of schema).actions
    → AreActionEntities (schema_listing types actions)
entities_of_copy schema types actions same =
    listed_are types actions
    (subst (IsStrictlySortedBy uid_cmp) (sym (same_keys (map plain_action_entry actions) (schema_of schema).actions same))
    (known_order schema).actions)

-- a schema of entries that stand under their names does
pub schema_under_names : (types : Types) (actions : Actions) (entities : List ActionEntity)
    → ((it : EntityType × ValidatorEntityType) → Contains types it → (entity_type_of it.1).name ≡ type_name it.0)
    → ((it : EntityUID × ValidatorActionId) → Contains actions it → (action_of it.1).uid ≡ uid_of it.0)
    → StandsUnderItsNames (schema_with (map plain_entry types) actions entities)
schema_under_names types actions entities named with_uids = record {
  entity_types = λ it among.
      let entry = Contains-preimage plain_entry types it among in
      let P : PlainName × SchemaEntityType → Type 0 = λ each. each.1.name ≡ each.0 in subst P entry.2 (named entry.0 entry.1);
  actions = λ it among.
      let entry = Contains-preimage plain_action_entry actions it among in
      let P : PlainUid × SchemaAction → Type 0 = λ each. each.1.uid ≡ each.0 in subst P entry.2 (with_uids entry.0 entry.1);
}

-- a schema that stands under its names does when it is closed
pub closed_under_names : (schema closed : PlainSchema) → ClosesSchema schema closed → StandsUnderItsNames schema
    → StandsUnderItsNames closed
closed_under_names schema closed closes stands = record {
  entity_types = λ it among.
      let from = pairwise_back (ClosesType schema) schema.entity_types closed.entity_types closes.entity_types it among in
      sym from.2.name ∙ (stands.entity_types from.0 from.1 ∙ from.2.key);
  actions = λ it among.
      let from = pairwise_back (ClosesAction schema) schema.actions closed.actions closes.actions it among in
      sym from.2.uid ∙ (stands.actions from.0 from.1 ∙ from.2.key);
}

-- and one whose entity types and actions are pairwise the same
pub same_under_names : (types others : List (PlainName × SchemaEntityType)) (actions other_actions : List (PlainUid × SchemaAction))
    (entities other_entities : List ActionEntity) → HoldsPairwise SameEntityType others types
    → HoldsPairwise SameAction other_actions actions
    → StandsUnderItsNames (record { entity_types = types; actions = actions; action_entities = entities })
    → StandsUnderItsNames (record { entity_types = others; actions = other_actions; action_entities = other_entities })
same_under_names types others actions other_actions entities other_entities type_turn action_turn stands = record {
  entity_types = λ it among.
      let from = turn_forth SameEntityType others types type_turn it among in
      from.2.name ∙ (stands.entity_types from.0 from.1 ∙ sym from.2.key);
  actions = λ it among.
      let from = turn_forth SameAction other_actions actions action_turn it among in
      from.2.uid ∙ (stands.actions from.0 from.1 ∙ sym from.2.key);
}

-- every schema stands under its names
pub known_names : (schema : ValidatorSchema) → StandsUnderItsNames (schema_of schema)
known_names schema = record {
  entity_types = λ it among.
      (name_cmp-Equal it.1.name it.0).0 (∥∥₁_elim schema.content.under_names (Prim.hlevel props)
      (λ stands. (name_cmp-Equal it.1.name it.0).1 (stands.entity_types it among)));
  actions = λ it among.
      (uid_cmp-Equal it.1.uid it.0).0 (∥∥₁_elim schema.content.under_names (Prim.hlevel props)
      (λ stands. (uid_cmp-Equal it.1.uid it.0).1 (stands.actions it among)));
}

module _ {K V P : Type 0} (key : K → P) (own : V → P) where
  -- values that stand under their names have just the names that they stand under
  own_names : (entries : List (K × V)) → ((it : K × V) → Contains entries it → own it.1 ≡ key it.0)
      → map own (map (λ it. it.1) entries) ≡ map key (keys_of entries)
  own_names [] named = refl
  own_names (entry ∷ rest) named =
      let first = named entry (Contains-cons entry rest entry (inl refl)) in
      let others = own_names rest (λ it among. named it (Contains-cons entry rest it (inr among))) in
      λ i. first i ∷ others i

-- the names that the entity types of a schema stand under are sorted
pub type_keys_ascend : (schema : ValidatorSchema) → IsStrictlySortedBy name_cmp (map type_name (keys_of schema.content.tables.entity_types.entries))
type_keys_ascend schema =
    subst (IsStrictlySortedBy name_cmp) (names_of_keys type_name plain_entry (λ e. refl) schema.content.tables.entity_types.entries)
    (known_order schema).entity_types

-- the uids that the actions of a schema stand under are sorted
pub action_keys_ascend : (schema : ValidatorSchema) → IsStrictlySortedBy uid_cmp (map uid_of (keys_of schema.content.tables.actions.entries))
action_keys_ascend schema =
    subst (IsStrictlySortedBy uid_cmp) (names_of_keys uid_of plain_action_entry (λ e. refl) schema.content.tables.actions.entries)
    (known_order schema).actions

-- the names of the entity types of a schema are sorted
pub type_names_ascend : (schema : ValidatorSchema)
    → IsStrictlySortedBy name_cmp (map (λ it. (entity_type_of it).name) (map (λ it. it.1) schema.content.tables.entity_types.entries))
type_names_ascend schema =
    let entries = schema.content.tables.entity_types.entries in
    subst (IsStrictlySortedBy name_cmp)
    (sym (own_names type_name (λ it. (entity_type_of it).name) entries
    (λ it among. (known_names schema).entity_types (plain_entry it) (Contains-image plain_entry entries it among))))
    (type_keys_ascend schema)

-- the uids of the actions of a schema are sorted
pub action_uids_ascend : (schema : ValidatorSchema)
    → IsStrictlySortedBy uid_cmp (map (λ it. (action_of it).uid) (map (λ it. it.1) schema.content.tables.actions.entries))
action_uids_ascend schema =
    let entries = schema.content.tables.actions.entries in
    subst (IsStrictlySortedBy uid_cmp)
    (sym (own_names uid_of (λ it. (action_of it).uid) entries
    (λ it among. (known_names schema).actions (plain_action_entry it) (Contains-image plain_action_entry entries it among))))
    (action_keys_ascend schema)

-- no name of a schema is reserved
pub no_reserved_name : (schema : ValidatorSchema) → HasNoReservedName (schema_of schema)
no_reserved_name schema = record {
  entity_types = λ name has reserved.
      let key = named_key schema.content.tables.entity_types.entries name has in
      let P : PlainName → Type 0 = λ each. Contains each.path reserved_word in key.0.0.unreserved (inr (subst P (sym key.2) reserved));
  actions = λ uid has reserved.
      let key = key_of_uid schema.content.tables.actions.entries uid has in
      let P : PlainUid → Type 0 = λ each. Contains each.ty.path reserved_word in
      key.0.ty.0.unreserved (inr (subst P (sym key.2) reserved));
}
