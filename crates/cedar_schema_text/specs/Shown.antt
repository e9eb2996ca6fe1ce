-- The plain data that fragments stand for.
use Rattle.std.specs.BTreeMap.{BTreeMap}
use Rattle.std.specs.Prelude.{◌∷◌, List, map, Option, Some, None, option_map, is_some, string_bytes}
use Rattle.std.specs.declared.alloc.Global.{Global}
use Rattle.std.specs.declared.string.String.{String}
use Rattle.cedar_ast.specs.Words.{Text, eid_text, name_loc, name_of, plain_loc, plain_name, unreserved_id_text}
use Rattle.cedar_ast.specs.declared.loc.Loc.{Loc}
use Rattle.cedar_ast.specs.declared.name.Name.{Name}
use Rattle.cedar_ast.specs.declared.unreserved_id.UnreservedId.{UnreservedId}
use Rattle.cedar_schema_ast.specs.CommonTypeId.{common_type_text}
use Rattle.cedar_schema_ast.specs.RawName.{raw_loc, raw_name}
use Rattle.cedar_schema_ast.specs.declared.json_schema.action_type.ActionEntityUID.{ActionEntityUID}
use Rattle.cedar_schema_ast.specs.declared.json_schema.action_type.ActionType.{ActionType}
use Rattle.cedar_schema_ast.specs.declared.json_schema.action_type.ApplySpec.{ApplySpec}
use Rattle.cedar_schema_ast.specs.declared.json_schema.common_type_id.CommonTypeId.{CommonTypeId}
use Rattle.cedar_schema_ast.specs.declared.json_schema.entity_type.EntityType.{EntityType}
use Rattle.cedar_schema_ast.specs.declared.json_schema.entity_type.EntityTypeKind.{EntityTypeKind}
use Rattle.cedar_schema_ast.specs.declared.json_schema.entity_type.EntityTypeKind.TheVariants as kind
use Rattle.cedar_schema_ast.specs.declared.json_schema.fragment.CommonType.{CommonType}
use Rattle.cedar_schema_ast.specs.declared.json_schema.fragment.Fragment.{Fragment}
use Rattle.cedar_schema_ast.specs.declared.json_schema.fragment.NamespaceDefinition.{NamespaceDefinition}
use Rattle.cedar_schema_ast.specs.declared.json_schema.raw_name.RawName.{RawName}
use Rattle.cedar_schema_ast.specs.declared.json_schema.type_of.RecordType.{RecordType, fold-RecordType}
use Rattle.cedar_schema_ast.specs.declared.json_schema.type_of.Type.{«Type», fold-Type}
use Rattle.cedar_schema_ast.specs.declared.json_schema.type_of.Type.TheOpen as layer
use Rattle.cedar_schema_ast.specs.declared.json_schema.type_of.TypeOfAttribute.{TypeOfAttribute, fold-TypeOfAttribute}
use Rattle.cedar_schema_ast.specs.declared.json_schema.type_of.TypeVariant.{TypeVariant, fold-TypeVariant}
use Rattle.cedar_schema_text.specs.Placed.{NameAt, TypeAt, common_type, either_type, set_type, record_type, other_type, AttributeAt, fields_from, KindAt, enumerated, standard_kind, EntityTypeAt, ParentAt, RequestsAt, ActionAt, CommonTypeAt, DefinitionAt, FragmentAt}

-- a name as it was written
abbrev pub name_shown : RawName → NameAt
name_shown it = record { name = raw_name it; loc = raw_loc it }

-- a type, given its place
abbrev pub Unplaced : Type 0
Unplaced = Option Loc → TypeAt

-- one layer of a type, with what its parts stand for in their places
abbrev pub type_step : layer.Type-F RawName TypeAt Unplaced Unplaced AttributeAt → TypeAt
type_step (layer.Plain ty loc) = ty loc
type_step (layer.CommonTypeRef name loc) = common_type (name_shown name) loc

-- one layer of a type variant
abbrev pub variant_step :
    layer.TypeVariant-F RawName TypeAt Unplaced Unplaced AttributeAt → Unplaced
variant_step layer.String loc = other_type
variant_step layer.Long loc = other_type
variant_step layer.Boolean loc = other_type
variant_step (layer.Set element) loc = set_type element.value loc
variant_step (layer.Record attributes) loc = attributes loc
variant_step (layer.Entity name) loc = other_type
variant_step (layer.EntityOrCommon name) loc = either_type (name_shown name) loc
variant_step (layer.Extension name) loc = other_type

-- one record type, with what its attributes stand for in their places
abbrev pub record_step : layer.RecordType-F RawName TypeAt Unplaced Unplaced AttributeAt → Unplaced
record_step it loc =
    record_type
    (fields_from (map (λ entry. (string_bytes entry.0, entry.1)) it.attributes.entries))
    it.additional_attributes loc

-- one attribute
abbrev pub attribute_step :
    layer.TypeOfAttribute-F RawName TypeAt Unplaced Unplaced AttributeAt → AttributeAt
attribute_step it = record { ty = it.ty; required = it.required; loc = it.loc }

-- what a type stands for
abbrev pub type_shown : «Type» RawName → TypeAt
type_shown =
    fold-Type RawName TypeAt Unplaced Unplaced AttributeAt type_step variant_step record_step
    attribute_step

-- what a type variant stands for, at a place
abbrev pub variant_shown : TypeVariant RawName → Unplaced
variant_shown =
    fold-TypeVariant RawName TypeAt Unplaced Unplaced AttributeAt type_step variant_step record_step
    attribute_step

-- what a record type stands for, at a place
abbrev pub record_shown : RecordType RawName → Unplaced
record_shown =
    fold-RecordType RawName TypeAt Unplaced Unplaced AttributeAt type_step variant_step record_step
    attribute_step

-- what an attribute stands for
abbrev pub attribute_shown : TypeOfAttribute RawName → AttributeAt
attribute_shown =
    fold-TypeOfAttribute RawName TypeAt Unplaced Unplaced AttributeAt type_step variant_step
    record_step attribute_step

-- what attributes stand for, each under its name
abbrev pub attributes_shown : BTreeMap (String Global) (TypeOfAttribute RawName)
    → List (Text × AttributeAt)
attributes_shown all =
    map (λ entry. (string_bytes entry.0, attribute_shown entry.1)) all.entries

-- what an entity type's kind stands for
abbrev pub kind_shown : EntityTypeKind RawName → KindAt
kind_shown (kind.Standard it) =
    standard_kind (map name_shown it.member_of_types.items) (type_shown it.shape.0)
    (option_map type_shown it.tags)
kind_shown (kind.Enum choices) = enumerated (map eid_text (choices.head ∷ choices.tail.items))

-- what the declaration of an entity type stands for
abbrev pub entity_type_shown : EntityType RawName → EntityTypeAt
entity_type_shown it =
    record { kind = kind_shown it.kind; external = it.external; loc = it.loc }

-- what a parent of an action stands for
abbrev pub parent_shown : ActionEntityUID RawName → ParentAt
parent_shown it =
    record { id = string_bytes it.id; ty = option_map name_shown it.ty; loc = it.loc }

-- what the requests of an action stand for
abbrev pub requests_shown : ApplySpec RawName → RequestsAt
requests_shown it =
    record {
      principals = map name_shown it.principal_types.items;
      resources = map name_shown it.resource_types.items;
      context = type_shown it.context.0;
    }

-- what the declaration of an action stands for
abbrev pub action_shown : ActionType RawName → ActionAt
action_shown it =
    record {
      has_attributes = is_some it.attributes;
      applies_to = option_map requests_shown it.applies_to;
      member_of = option_map (λ parents. map parent_shown parents.items) it.member_of;
      external = it.external;
      loc = it.loc;
      defn_loc = it.defn_loc;
    }

-- what the declaration of a common type stands for
abbrev pub common_type_shown : CommonType RawName → CommonTypeAt
common_type_shown it = record { ty = type_shown it.ty; loc = it.loc }

-- what common types stand for, each under its id
abbrev pub common_types_shown : BTreeMap CommonTypeId (CommonType RawName)
    → List (Text × CommonTypeAt)
common_types_shown all =
    map (λ entry. (common_type_text entry.0, common_type_shown entry.1)) all.entries

-- what entity types stand for, each under its id
abbrev pub entity_types_shown : BTreeMap UnreservedId (EntityType RawName)
    → List (Text × EntityTypeAt)
entity_types_shown all =
    map (λ entry. (unreserved_id_text entry.0, entity_type_shown entry.1)) all.entries

-- what actions stand for, each under its id
abbrev pub actions_shown : BTreeMap (String Global) (ActionType RawName) → List (Text × ActionAt)
actions_shown all = map (λ entry. (string_bytes entry.0, action_shown entry.1)) all.entries

-- what the definition of a namespace stands for
abbrev pub definition_shown : NamespaceDefinition RawName → DefinitionAt
definition_shown it =
    record {
      common_types = common_types_shown it.common_types;
      entity_types = entity_types_shown it.entity_types;
      actions = actions_shown it.actions;
      loc = it.loc;
    }

-- the name of a namespace
abbrev pub namespace_shown : Name → NameAt
namespace_shown it = record { name = plain_name it; loc = plain_loc it }

-- what the definitions of namespaces stand for, each under its name
abbrev pub namespaces_shown : BTreeMap (Option Name) (NamespaceDefinition RawName) → FragmentAt
namespaces_shown all =
    map (λ entry. (option_map namespace_shown entry.0, definition_shown entry.1)) all.entries

-- what a fragment stands for
abbrev pub fragment_shown : Fragment RawName → FragmentAt
fragment_shown it = namespaces_shown it.0
