use Rattle.std.specs.Option.{option_map}
use Rattle.std.specs.Prelude.{map, Option, string_bytes}
use Rattle.cedar_ast.specs.Words.{Text, items_of, name_of, plain_name, type_name, uid_of}
use Rattle.cedar_schema_ast.specs.Words.{Reference, conditional_reference}
use Rattle.cedar_schema_ast.specs.declared.json_schema.action_type.ActionEntityUID.{ActionEntityUID}
use Rattle.cedar_schema_ast.specs.declared.json_schema.conditional_name.ConditionalName.{ConditionalName}
use Rattle.cedar_schema_ast.specs.declared.json_schema.qualify_error.QualifyError.{QualifyError}
use Rattle.cedar_schema_ast.specs.declared.json_schema.qualify_error.QualifyError.TheVariants as qualify
use Rattle.cedar_schema_semantics.specs.Fault.{Fault, action_attributes, open_record, undeclared_entity_types, type_not_defined, action_not_defined, type_shadowing, action_shadowing, duplicate_entity_type, duplicate_common_type, duplicate_action, action_cycle, common_type_cycle, action_entity_type, shape_not_record, context_not_record, unknown_extension_type, reserved_name, external_below_enumerated, enumerated_below, undeclared_action_descendant, invalid_action_type, common_type_left, action_left, out_of_memory}
use Rattle.cedar_schema_semantics.specs.declared.schema_error.ContextOrShape.{ContextOrShape}
use Rattle.cedar_schema_semantics.specs.declared.schema_error.ContextOrShape.TheVariants as context_or_shape
use Rattle.cedar_schema_semantics.specs.declared.schema_error.SchemaError.{SchemaError}
use Rattle.cedar_schema_semantics.specs.declared.schema_error.SchemaError.TheVariants as error
use Rattle.cedar_schema_semantics.specs.declared.schema_error.UnsupportedFeature.{UnsupportedFeature}
use Rattle.cedar_schema_semantics.specs.declared.schema_error.UnsupportedFeature.TheVariants as feature

-- a parent of an action as plain data: its id, and what its type may stand for if one is given
abbrev pub carried_action : ActionEntityUID ConditionalName → Text × Option Reference
carried_action it = (string_bytes it.id, option_map conditional_reference it.ty)

-- an unsupported feature as plain data
abbrev pub feature_fault : UnsupportedFeature → Fault
feature_fault (feature.ActionAttributes ids) = action_attributes (map string_bytes ids.items)
feature_fault feature.OpenRecordsAndEntities = open_record

-- a shape or a context that is no record type, as plain data
abbrev pub context_or_shape_fault : ContextOrShape → Fault
context_or_shape_fault (context_or_shape.EntityTypeShape ty) = shape_not_record (type_name ty)
context_or_shape_fault (context_or_shape.ActionContext uid) = context_not_record (uid_of uid)

-- a refusal as plain data
abbrev pub fault_of : SchemaError → Fault
fault_of (error.UnsupportedFeature it) = feature_fault it
fault_of (error.UndeclaredEntityTypes types) =
    undeclared_entity_types (map type_name (items_of types))
fault_of (error.TypeNotDefined it) =
    type_not_defined (map conditional_reference (items_of it.undefined_types))
fault_of (error.ActionNotDefined actions) =
    action_not_defined (map carried_action (items_of actions))
fault_of (error.TypeShadowing plain qualified) = type_shadowing (name_of plain) (name_of qualified)
fault_of (error.ActionShadowing plain qualified) =
    action_shadowing (uid_of plain) (uid_of qualified)
fault_of (error.DuplicateEntityType ty) = duplicate_entity_type (type_name ty)
fault_of (error.DuplicateCommonType name) = duplicate_common_type (name_of name)
fault_of (error.DuplicateAction uid) = duplicate_action (uid_of uid)
fault_of (error.CycleInActionHierarchy uid) = action_cycle (uid_of uid)
fault_of (error.CycleInCommonTypeReferences name) = common_type_cycle (name_of name)
fault_of (error.ActionEntityTypeDeclared name) = action_entity_type (name_of name)
fault_of (error.ContextOrShapeNotRecord it) = context_or_shape_fault it
fault_of (error.UnknownExtensionType name) = unknown_extension_type (plain_name name)
fault_of (error.ReservedName name) = reserved_name (name_of name)
fault_of (error.ExternalWithEnumAncestor lower upper) =
    external_below_enumerated (type_name lower) (type_name upper)
fault_of (error.EnumEntityInHierarchy lower upper) =
    enumerated_below (type_name lower) (type_name upper)
fault_of (error.UndeclaredActionsDescendant uid) = undeclared_action_descendant (uid_of uid)
fault_of (error.InvalidActionType uid) = invalid_action_type (uid_of uid)
fault_of error.CommonTypeInvariantViolation = common_type_left
fault_of error.ActionInvariantViolation = action_left
fault_of (error.Memory refused) = out_of_memory

-- why a reference is not resolved, as plain data
abbrev pub qualify_fault : QualifyError → Fault
qualify_fault (qualify.TypeNotDefined it) =
    type_not_defined (map conditional_reference (items_of it.undefined_types))
qualify_fault (qualify.Memory refused) = out_of_memory
