use Rattle.std.specs.Option.{option_map}
use Rattle.std.specs.Prelude.{List, map}
use Rattle.cedar_ast.specs.Words.{eid_text, items_of, name_of, type_name}
use Rattle.cedar_fragments.specs.DeclaredAs.{declared_as}
use Rattle.cedar_fragments.specs.declared.namespace.common_types.CommonTypeDef.{CommonTypeDef}
use Rattle.cedar_fragments.specs.declared.namespace.common_types.CommonTypeDefs.{CommonTypeDefs}
use Rattle.cedar_fragments.specs.declared.namespace.entity_type_def.EntityTypeDef.{EntityTypeDef}
use Rattle.cedar_fragments.specs.declared.namespace.entity_types.EntityTypeFragment.{EntityTypeFragment}
use Rattle.cedar_fragments.specs.declared.namespace.entity_types.EntityTypeFragment.TheVariants as variant
use Rattle.cedar_fragments.specs.declared.namespace.entity_types.EntityTypesDef.{EntityTypesDef}
use Rattle.cedar_schema_ast.specs.Words.{Declaration, EntityBody, Reference, common_type, entity_type, enumerated, external, standard, type_expr}
use Rattle.cedar_schema_ast.specs.declared.json_schema.reference_type.ReferenceType.{ReferenceType}
use Rattle.cedar_schema_ast.specs.declared.json_schema.reference_type.ReferenceType.TheVariants.{Entity}

-- types over names of some form, where it is given what a name refers to at a place of each kind
module _ (N : Type 0) (refer : ReferenceType → N → Reference) where
  -- the declaration of a common type
  abbrev pub common_type_declaration : CommonTypeDef N → Declaration
  common_type_declaration def = declared_as (name_of def.name)
      (common_type (type_expr N refer def.ty))

  -- the declarations of the common types
  abbrev pub common_type_declarations : CommonTypeDefs N → List Declaration
  common_type_declarations it = map common_type_declaration it.defs.items

  -- what is declared of an entity type
  abbrev pub fragment_body : EntityTypeFragment N → EntityBody
  fragment_body (variant.Standard attributes parents tags) =
      standard (map (refer Entity) parents.items) (type_expr N refer attributes.0)
      (option_map (type_expr N refer) tags)
  fragment_body (variant.Enum choices) = enumerated (map eid_text (items_of choices))
  fragment_body (variant.External parents) = external (map (refer Entity) parents.items)

  -- the declaration of an entity type
  abbrev pub entity_type_declaration : EntityTypeDef N → Declaration
  entity_type_declaration def = declared_as (type_name def.name)
      (entity_type (fragment_body def.fragment))

  -- the declarations of the entity types
  abbrev pub entity_type_declarations : EntityTypesDef N → List Declaration
  entity_type_declarations it = map entity_type_declaration it.defs.items
