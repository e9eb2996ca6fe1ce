-- What each step of the builder is handed, where declarations of fragments are built over the names
-- that they define.
use Rattle.std.proofs.Common.{◌≡◌, List, Option, Contains}
use Rattle.cedar_fragments.specs.declared.declarations.Declarations.{Declarations}
use Rattle.cedar_schema.proofs.CollectedBags.{collected_unreserved}
use Rattle.cedar_schema.proofs.ReadySteps.{actions_of, ready, types_of}
use Rattle.cedar_schema.specs.Words.{AreActionsOf, AreDeclaredEntityTypes, AreElaborated, AreTypesOf, Bag, Collects, CommonTypesAreSound, EntityType, Entries, Expr, Extensions, IsNamedOver, IsReady, IsReserved, Names, PlainName, Reference, ReferenceType, TypeScope, ValidatorEntityType, ValidatorSchemaFragment, definitions, elaborated_types, held_names, written_actions, written_bag, written_common, written_entities}

module _ {N : Type 0} {refer : Option PlainName → ReferenceType → N → Reference} {collected : Declarations N} {given : Extensions}
    {held : Names} {built_in : List (PlainName × Expr)} (fragments : List (ValidatorSchemaFragment N N))
    (is : Collects N refer (written_bag N refer fragments) collected)
    (over : IsNamedOver (written_bag N refer fragments) given held built_in) where
  -- what the fragments declare
  abbrev declared : Bag
  declared = written_bag N refer fragments

  -- no entity type and no type of an action has a reserved name
  unreserved : (name : PlainName) → Contains (definitions declared given).entities name → ¬ IsReserved name
  unreserved = collected_unreserved N refer declared given collected.entity_types.items collected.actions.items is.entities is.actions

  -- the common types can be elaborated
  pub common_ready : AreTypesOf declared given (written_common N refer collected.common_types.items) built_in held
  common_ready = types_of declared given held built_in over _ _ _ is.common is.entities is.actions unreserved

  module _ (known : TypeScope) (known_names : held_names known.defs.now ≡ held) (known_extensions : known.extensions.now ≡ given)
      (written : AreElaborated declared given (elaborated_types known.common.now)) (sound : CommonTypesAreSound declared given) where
    -- the entity types can be built
    pub types_ready : IsReady declared given (written_entities N refer collected.entity_types.items) known
    types_ready = ready declared given held built_in over _ _ _ is.common is.entities is.actions unreserved known known_names known_extensions written sound

    -- the actions can be built
    pub actions_ready : (types : Entries EntityType ValidatorEntityType) → AreDeclaredEntityTypes declared given types.entries
        → AreActionsOf declared given (written_actions N refer collected.actions.items) types known
    actions_ready = actions_of declared given held built_in over _ _ _ is.common is.entities is.actions unreserved known known_names known_extensions written sound
