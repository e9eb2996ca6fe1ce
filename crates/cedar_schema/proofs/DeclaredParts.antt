-- Entity types and actions that are the declared ones, with the entities of these actions, are the
-- declared schema.
use Rattle.std.proofs.Common.{List, map, sym, subst, ◌∙◌, Contains}
use Rattle.std.proofs.lemmas.Simd.{map-map}
use Rattle.std.specs.List.Sorted.{IsStrictlySortedBy}
use Rattle.std.specs.Map.{keys_of}
use Rattle.cedar_ast.proofs.Lists.{Contains-preimage}
use Rattle.cedar_schema.specs.Words.{AreActionEntities, AreDeclaredActions, AreDeclaredEntityTypes, Bag, ActionEntity, EntityType, EntityUID, Extensions, IsDeclaredAction, IsDeclaredEntityType, IsDeclaredSchema, PlainName, PlainUid, SchemaAction, SchemaEntityType, ValidatorActionId, ValidatorEntityType, name_cmp, plain_action_entry, plain_entry, schema_with, type_name, uid_cmp, uid_of}

-- the declared schema
pub declared_parts : (bag : Bag) (extensions : Extensions) (types : List (EntityType × ValidatorEntityType))
    (actions : List (EntityUID × ValidatorActionId)) (entities : List ActionEntity)
    → AreDeclaredEntityTypes bag extensions types → IsStrictlySortedBy name_cmp (map type_name (keys_of types))
    → AreDeclaredActions bag extensions actions → IsStrictlySortedBy uid_cmp (map uid_of (keys_of actions))
    → AreActionEntities (schema_with (map plain_entry types) actions entities)
    → IsDeclaredSchema bag extensions (schema_with (map plain_entry types) actions entities)
declared_parts bag extensions types actions entities are_types types_ascend are_actions actions_ascend are_entities =
    let name : PlainName × SchemaEntityType → PlainName = λ it. it.0 in
    let uid : PlainUid × SchemaAction → PlainUid = λ it. it.0 in
    let type : EntityType × ValidatorEntityType → EntityType = λ it. it.0 in
    let action : EntityUID × ValidatorActionId → EntityUID = λ it. it.0 in
    let P : PlainName × SchemaEntityType → Type 0 = IsDeclaredEntityType bag extensions in
    let Q : PlainUid × SchemaAction → Type 0 = IsDeclaredAction bag extensions in
    let AscendNames : List PlainName → Type 0 = IsStrictlySortedBy name_cmp in
    let AscendUids : List PlainUid → Type 0 = IsStrictlySortedBy uid_cmp in
    record {
      entity_types = λ it among.
          let found = Contains-preimage plain_entry types it among in
          subst P found.2 (are_types.each found.0.0 found.0.1 found.1);
      each_entity_type = λ each among.
          let R : List PlainName → Type 0 = λ names. Contains names each in
          subst R (sym (map-map name plain_entry types)) (are_types.complete each among);
      entity_types_in_order = subst AscendNames (sym (map-map name plain_entry types ∙ sym (map-map type_name type types))) types_ascend;
      actions = λ it among.
          let found = Contains-preimage plain_action_entry actions it among in
          subst Q found.2 (are_actions.each found.0.0 found.0.1 found.1);
      each_action = λ each among.
          let R : List PlainUid → Type 0 = λ uids. Contains uids each in
          subst R (sym (map-map uid plain_action_entry actions)) (are_actions.complete each among);
      actions_in_order = subst AscendUids (sym (map-map uid plain_action_entry actions ∙ sym (map-map uid_of action actions))) actions_ascend;
      action_entities = are_entities;
    }
