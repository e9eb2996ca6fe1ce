use Rattle.std.specs.Option.{option_map}
use Rattle.std.specs.Prelude.{Bool, true, false, List, [], ◌∷◌, map, Option}
use Rattle.cedar_ast.specs.Words.{PlainName, Text, eid_text}
use Rattle.cedar_schema_ast.specs.Expr.{Expr}
use Rattle.cedar_schema_ast.specs.RawExpr.{raw_reference}
use Rattle.cedar_schema_ast.specs.Reference.{Reference}
use Rattle.cedar_schema_ast.specs.TypeExpr.{type_expr}
use Rattle.cedar_schema_ast.specs.declared.json_schema.entity_type.EntityType.{EntityType}
use Rattle.cedar_schema_ast.specs.declared.json_schema.entity_type.EntityTypeKind.{EntityTypeKind}
use Rattle.cedar_schema_ast.specs.declared.json_schema.entity_type.EntityTypeKind.TheVariants as variant
use Rattle.cedar_schema_ast.specs.declared.json_schema.raw_name.RawName.{RawName}
use Rattle.cedar_schema_ast.specs.declared.json_schema.reference_type.ReferenceType.{ReferenceType}
use Rattle.cedar_schema_ast.specs.declared.json_schema.reference_type.ReferenceType.TheVariants.{Entity}

-- what is declared of an entity type: its parents, its shape and the type of its tags, or its
-- choices, or of an external one its parents alone
pub data EntityBody : Type 0 where
  standard : List Reference → Expr → Option Expr → EntityBody
  enumerated : List Text → EntityBody
  external : List Reference → EntityBody

-- declarations over names of some form, where it is given what a name refers to at a place of each
-- kind
module _ (N : Type 0) (refer : ReferenceType → N → Reference) where
  -- what a declaration says by its kind and by whether it is external; external choices are ignored
  abbrev pub kind_body : EntityTypeKind N → Bool → EntityBody
  kind_body (variant.Standard it) false = standard (map (refer Entity) it.member_of_types.items)
      (type_expr N refer it.shape.0) (option_map (type_expr N refer) it.tags)
  kind_body (variant.Standard it) true = external (map (refer Entity) it.member_of_types.items)
  kind_body (variant.Enum choices) false =
      enumerated (map eid_text (choices.head ∷ choices.tail.items))
  kind_body (variant.Enum choices) true = external []

  -- what a declaration of an entity type says
  abbrev pub entity_body : EntityType N → EntityBody
  entity_body it = kind_body it.kind it.external

-- what a declaration of an entity type in the namespace says
abbrev pub raw_entity_body : Option PlainName → EntityType RawName → EntityBody
raw_entity_body namespace = entity_body RawName (raw_reference namespace)
