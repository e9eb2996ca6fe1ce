use Rattle.std.specs.List.{flat_map}
use Rattle.std.specs.Prelude.{◌≡◌, ◌++◌, List, Option}
use Rattle.cedar_ast.specs.Words.{PlainName}
use Rattle.cedar_ast.specs.declared.entity_type.EntityType.{EntityType}
use Rattle.cedar_ast.specs.declared.internal_name.InternalName.{InternalName}
use Rattle.cedar_fragments.specs.FragmentDeclarations.{resolved_fragment}
use Rattle.cedar_fragments.specs.WrittenDeclarations.{written_actions, written_entities}
use Rattle.cedar_fragments.specs.declared.declarations.Declarations.{Declarations}
use Rattle.cedar_fragments.specs.declared.namespace.fragment.ValidatorSchemaFragment.{ValidatorSchemaFragment}
use Rattle.cedar_name_resolution.specs.WrittenTypes.{written_common}
use Rattle.cedar_schema_ast.specs.Words.{Reference}
use Rattle.cedar_schema_ast.specs.declared.json_schema.reference_type.ReferenceType.{ReferenceType}
use Rattle.cedar_schema_semantics.specs.Words.{Bag, declared_actions, declared_common, declared_entities}

-- the bag of declarations of some fragments over full names
abbrev pub resolved_bag : List (ValidatorSchemaFragment InternalName EntityType) → Bag
resolved_bag fragments = flat_map resolved_fragment fragments

-- over names of some form, where it is given what a name refers to in a namespace at a place of
-- each kind
module _ (N : Type 0) (refer : Option PlainName → ReferenceType → N → Reference) where
  -- what is collected after is what was collected before, and then what a bag declares: common
  -- types, entity types and actions
  pub record CollectsAlso (before : Declarations N) (bag : Bag) (after : Declarations N) :
      Type 0 where
    pub common : written_common N refer after.common_types.items
        ≡ written_common N refer before.common_types.items ++ declared_common bag
    pub entities : written_entities N refer after.entity_types.items
        ≡ written_entities N refer before.entity_types.items ++ declared_entities bag
    pub actions : written_actions N refer after.actions.items
        ≡ written_actions N refer before.actions.items ++ declared_actions bag
