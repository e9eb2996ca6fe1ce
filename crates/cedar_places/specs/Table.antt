-- What of a fragment is listed with its places.
use Rattle.std.specs.List.{flat_map}
use Rattle.std.specs.Option.{option_map}
use Rattle.std.specs.Prelude.{[], ◌∷◌, ◌++◌, Option, Some, None, is_some, string_bytes}
use Rattle.std.specs.declared.alloc.Global.{Global}
use Rattle.std.specs.declared.string.String.{String}
use Rattle.cedar_ast.specs.Words.{PlainName, Text, action_word, plain_name, unreserved_id_text}
use Rattle.cedar_ast.specs.declared.name.Name.{Name}
use Rattle.cedar_ast.specs.declared.unreserved_id.UnreservedId.{UnreservedId}
use Rattle.cedar_places.specs.Mark.{Marks, action, common_type, entity_type}
use Rattle.cedar_places.specs.TypeMarks.{type_marks}
use Rattle.cedar_schema_ast.specs.Words.{common_type_text, qualified_name}
use Rattle.cedar_schema_ast.specs.declared.json_schema.action_type.ActionType.{ActionType}
use Rattle.cedar_schema_ast.specs.declared.json_schema.action_type.ApplySpec.{ApplySpec}
use Rattle.cedar_schema_ast.specs.declared.json_schema.common_type_id.CommonTypeId.{CommonTypeId}
use Rattle.cedar_schema_ast.specs.declared.json_schema.entity_type.EntityType.{EntityType}
use Rattle.cedar_schema_ast.specs.declared.json_schema.entity_type.EntityTypeKind.{EntityTypeKind}
use Rattle.cedar_schema_ast.specs.declared.json_schema.entity_type.EntityTypeKind.TheVariants as kind
use Rattle.cedar_schema_ast.specs.declared.json_schema.fragment.CommonType.{CommonType}
use Rattle.cedar_schema_ast.specs.declared.json_schema.fragment.Fragment.{Fragment}
use Rattle.cedar_schema_ast.specs.declared.json_schema.fragment.NamespaceDefinition.{NamespaceDefinition}
use Rattle.cedar_schema_ast.specs.declared.json_schema.raw_name.RawName.{RawName}
use Rattle.cedar_schema_ast.specs.declared.json_schema.type_of.Type.{«Type»}

-- a namespace by its plain name; None is the empty one
abbrev pub namespace_of : Option Name → Option PlainName
namespace_of namespace = option_map plain_name namespace

-- the name in full of what is declared under an id in a namespace
abbrev pub full_name : Option PlainName → Text → PlainName
full_name namespace id = qualified_name namespace (record { base = id; path = [] })

-- what is listed of a type that may be there
abbrev pub tags_marks : Option («Type» RawName) → Marks
tags_marks None = []
tags_marks (Some ty) = type_marks ty

-- what is listed of the types of an entity type: those in its shape, then those in its tags
abbrev pub kind_marks : EntityTypeKind RawName → Marks
kind_marks (kind.Standard it) = type_marks it.shape.0 ++ tags_marks it.tags
kind_marks (kind.Enum choices) = []

-- what is listed of the types in an action: those in its context
abbrev pub requests_marks : Option (ApplySpec RawName) → Marks
requests_marks None = []
requests_marks (Some it) = type_marks it.context.0

module _ (namespace : Option PlainName) where
  -- what is listed of a common type: the declaration, then what is in its type
  abbrev pub common_type_marks : CommonTypeId × CommonType RawName → Marks
  common_type_marks entry =
      (common_type (full_name namespace (common_type_text entry.0)), entry.1.loc)
      ∷ type_marks entry.1.ty

  -- what is listed of an entity type: the declaration, then what is in its types
  abbrev pub entity_type_marks : UnreservedId × EntityType RawName → Marks
  entity_type_marks entry =
      (entity_type (full_name namespace (unreserved_id_text entry.0)), entry.1.loc)
      ∷ kind_marks entry.1.kind

  -- what is listed of an action: the declaration, then what is in its context
  abbrev pub action_marks : String Global × ActionType RawName → Marks
  action_marks entry = (
    action (full_name namespace action_word) (string_bytes entry.0) (is_some entry.1.attributes),
    entry.1.loc,
  )
      ∷ requests_marks entry.1.applies_to

  -- what is listed of a namespace: its common types, its entity types and its actions, each in
  -- order
  abbrev pub definition_marks : NamespaceDefinition RawName → Marks
  definition_marks it =
      flat_map common_type_marks it.common_types.entries
      ++ (flat_map entity_type_marks it.entity_types.entries
      ++ flat_map action_marks it.actions.entries)

-- what is listed of a fragment, namespace by namespace
abbrev pub fragment_marks : Fragment RawName → Marks
fragment_marks it =
    flat_map (λ entry. definition_marks (namespace_of entry.0) entry.1) it.0.entries
