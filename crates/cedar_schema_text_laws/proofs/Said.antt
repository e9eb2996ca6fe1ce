-- What a fragment says, whatever the places.
use Rattle.std.proofs.Common.{map, Option, None, option_map}
use Rattle.cedar_ast.specs.Words.{PlainName}
use Rattle.cedar_json.specs.ActionFormat.{WrittenAction, WrittenParent}
use Rattle.cedar_json.specs.DefinitionFormat.{WrittenDefinition, WrittenFragment}
use Rattle.cedar_json.specs.EntityFormat.{WrittenEntity}
use Rattle.cedar_schema_ast.specs.Words.{EntityBody, Expr, Members, Reference, Requests, enumerated, member, named, no_member, record_expr, reference_to, requests, set_expr, standard, text_expr}
use Rattle.cedar_schema_ast.specs.declared.json_schema.reference_type.ReferenceType.TheVariants.{Common, CommonOrEntity, Entity}
use Rattle.cedar_schema_text.specs.Placed.{ActionAt, DefinitionAt, EntityTypeAt, FieldsAt, FragmentAt, KindAt, NameAt, ParentAt, RequestsAt, TypeAt, common_type, either_type, field, no_field, other_type, record_type, set_type, standard_kind}
use Rattle.cedar_schema_text.specs.Placed.{enumerated as enumerated_kind}

abbrev mutual
  pub type_said : TypeAt → Expr
  type_said (common_type name loc) = named (reference_to None Common name.name)
  type_said (either_type name loc) = named (reference_to None CommonOrEntity name.name)
  type_said (set_type element loc) = set_expr (type_said element)
  type_said (record_type fields additional loc) = record_expr (fields_said fields) additional
  type_said other_type = text_expr

  pub fields_said : FieldsAt → Members
  fields_said no_field = no_member
  fields_said (field name ty required loc rest) = member name required (type_said ty) (fields_said rest)

-- a name of an entity type
abbrev pub entity_said : NameAt → Reference
entity_said it = reference_to None Entity it.name

abbrev pub kind_said : KindAt → EntityBody
kind_said (enumerated_kind ids) = enumerated ids
kind_said (standard_kind parents shape tags) = standard (map entity_said parents) (type_said shape) (option_map type_said tags)

abbrev pub entity_type_said : EntityTypeAt → WrittenEntity
entity_type_said it = record { body = kind_said it.kind; external = it.external }

abbrev pub parent_said : ParentAt → WrittenParent
parent_said it = (it.id, option_map entity_said it.ty)

abbrev pub requests_said : RequestsAt → Requests
requests_said it = requests (map entity_said it.principals) (map entity_said it.resources) (type_said it.context)

-- an action without attributes
abbrev pub action_said : ActionAt → WrittenAction
action_said it = record {
  attributes = None;
  applies_to = option_map requests_said it.applies_to;
  member_of = option_map (map parent_said) it.member_of;
  external = it.external;
}

abbrev pub definition_said : DefinitionAt → WrittenDefinition
definition_said it = record {
  common_types = map (λ entry. (entry.0, type_said entry.1.ty)) it.common_types;
  entity_types = map (λ entry. (entry.0, entity_type_said entry.1)) it.entity_types;
  actions = map (λ entry. (entry.0, action_said entry.1)) it.actions;
}

abbrev pub namespace_said : Option NameAt → Option PlainName
namespace_said namespace = option_map (λ it. it.name) namespace

abbrev pub fragment_said : FragmentAt → WrittenFragment
fragment_said it = map (λ entry. (namespace_said entry.0, definition_said entry.1)) it
