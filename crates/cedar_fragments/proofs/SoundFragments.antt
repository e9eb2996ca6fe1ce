-- What fragments declare gives no cause for the refusal of a definition.
use Rattle.std.proofs.Common.{Option, List, [], ◌∷◌, map, sym, subst, refl, inr, Contains}
use Rattle.std.specs.List.{AllByRecursion, flat_map}
use Rattle.cedar_ast.proofs.ValueLemmas.{IsName-type_name}
use Rattle.cedar_fragments.proofs.DeclaredNames.{name_declared, uid_declared}
use Rattle.cedar_fragments.proofs.FragmentLemmas.{flat_map-each}
use Rattle.cedar_fragments.proofs.SoundLemmas.{sound_bag}
use Rattle.cedar_fragments.specs.Words.{ActionDef, EntityTypeDef, HasNoDefinitionFault, IsActionType, IsSound, PlainName, PlainUid, Reference, ReferenceType, ValidatorNamespaceDef, ValidatorSchemaFragment, action, action_fragment_body, action_fragment_declaration, action_fragment_declarations, common_type_declaration, common_type_declarations, definition_declarations, definition_namespace, entity_type, entity_type_declaration, entity_type_declarations, fragment_body, fragment_declarations, reserved_word, type_name, uid_of, written_bag, written_definition, written_fragment}
use Rattle.cedar_name_resolution.proofs.EachLemmas.{AllByRecursion-append}

-- the name is no type of actions, and isn't reserved
abbrev IsSoundName : PlainName → Type 0
IsSoundName name = (¬ IsActionType name) × ¬ Contains name.path reserved_word

-- the name of the uid's type isn't reserved
abbrev IsSoundUid : PlainUid → Type 0
IsSoundUid uid = ¬ Contains uid.ty.path reserved_word

-- what holds of all images holds of those of a list
all_images : {X C : Type 0} (P : C → Type 0) (f : X → C) → ((x : X) → P (f x)) → (xs : List X) → AllByRecursion P (map f xs)
all_images P f holds [] = tt
all_images P f holds (x ∷ xs) = (holds x, all_images P f holds xs)

module _ (N : Type 0) (refer : ReferenceType → N → Reference) (A : Type 0) (refer_action : ReferenceType → A → Reference) where
  -- an entity type of a definition is no type of actions, and its name isn't reserved
  entity_sound : (def : EntityTypeDef N) → IsSound (entity_type_declaration N refer def)
  entity_sound def =
      subst IsSoundName (sym (name_declared (type_name def.name) (entity_type (fragment_body N refer def.fragment))))
      (def.no_action, λ among. (IsName-type_name def.name).2 (inr among))

  -- an action of a definition has no attributes, and the name of its type isn't reserved
  action_sound : (def : ActionDef N A) → IsSound (action_fragment_declaration N refer A refer_action def)
  action_sound def = (
    refl,
    subst IsSoundUid (sym (uid_declared (uid_of def.uid) (action (action_fragment_body N refer A refer_action def.fragment)) def.is_action))
        (λ among. (IsName-type_name def.uid.ty).2 (inr among)),
  )

  -- a definition gives no cause
  definition_sound : (it : ValidatorNamespaceDef N A) → AllByRecursion IsSound (definition_declarations N refer A refer_action it)
  definition_sound it =
      AllByRecursion-append IsSound _ (action_fragment_declarations N refer A refer_action it.actions)
      (AllByRecursion-append IsSound (common_type_declarations N refer it.common_types) (entity_type_declarations N refer it.entity_types)
      (all_images IsSound (common_type_declaration N refer) (λ def. tt) it.common_types.defs.items)
      (all_images IsSound (entity_type_declaration N refer) entity_sound it.entity_types.defs.items))
      (all_images IsSound (action_fragment_declaration N refer A refer_action) action_sound it.actions.defs.items)

  -- a fragment gives no cause
  fragment_sound : (it : ValidatorSchemaFragment N A) → AllByRecursion IsSound (fragment_declarations N refer A refer_action it)
  fragment_sound it =
      flat_map-each (definition_declarations N refer A refer_action) IsSound it.definitions.items
      (all_images (AllByRecursion IsSound) (definition_declarations N refer A refer_action) definition_sound it.definitions.items)

  -- some fragments give no cause
  pub fragments_sound : (fragments : List (ValidatorSchemaFragment N A))
      → AllByRecursion IsSound (flat_map (fragment_declarations N refer A refer_action) fragments)
  fragments_sound fragments =
      flat_map-each (fragment_declarations N refer A refer_action) IsSound fragments
      (all_images (AllByRecursion IsSound) (fragment_declarations N refer A refer_action) fragment_sound fragments)

  -- so the bag of some fragments has none of the faults of definitions
  pub fragments_have_no_fault : (fragments : List (ValidatorSchemaFragment N A))
      → HasNoDefinitionFault (flat_map (fragment_declarations N refer A refer_action) fragments)
  fragments_have_no_fault fragments = sound_bag _ (fragments_sound fragments)

module _ (N : Type 0) (refer : Option PlainName → ReferenceType → N → Reference) where
  -- a fragment whose names are written in the namespaces of its definitions gives no cause
  written_sound : (it : ValidatorSchemaFragment N N) → AllByRecursion IsSound (written_fragment N refer it)
  written_sound it =
      flat_map-each (written_definition N refer) IsSound it.definitions.items
      (all_images (AllByRecursion IsSound) (written_definition N refer)
      (λ def. let within = refer (definition_namespace N N def) in definition_sound N within N within def) it.definitions.items)

  -- so the bag of some such fragments has none of the faults of definitions
  pub written_have_no_fault : (fragments : List (ValidatorSchemaFragment N N)) → HasNoDefinitionFault (written_bag N refer fragments)
  written_have_no_fault fragments =
      sound_bag _ (flat_map-each (written_fragment N refer) IsSound fragments
      (all_images (AllByRecursion IsSound) (written_fragment N refer) written_sound fragments))
