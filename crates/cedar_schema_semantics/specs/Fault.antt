use Rattle.std.specs.Prelude.{List, Option, codes}
use Rattle.cedar_ast.specs.Words.{PlainName, PlainUid, Text}
use Rattle.cedar_schema_ast.specs.Reference.{Reference}

-- why no schema is built, as plain data: a fault with what it names, or out of memory
pub data Fault : Type 0 where
  action_attributes : List Text → Fault
  open_record : Fault
  undeclared_entity_types : List PlainName → Fault
  type_not_defined : List Reference → Fault
  action_not_defined : List (Text × Option Reference) → Fault
  type_shadowing : PlainName → PlainName → Fault
  action_shadowing : PlainUid → PlainUid → Fault
  duplicate_entity_type : PlainName → Fault
  duplicate_common_type : PlainName → Fault
  duplicate_action : PlainUid → Fault
  action_cycle : PlainUid → Fault
  common_type_cycle : PlainName → Fault
  action_entity_type : PlainName → Fault
  shape_not_record : PlainName → Fault
  context_not_record : PlainUid → Fault
  unknown_extension_type : PlainName → Fault
  reserved_name : PlainName → Fault
  external_below_enumerated : PlainName → PlainName → Fault
  enumerated_below : PlainName → PlainName → Fault
  undeclared_action_descendant : PlainUid → Fault
  invalid_action_type : PlainUid → Fault
  common_type_left : Fault
  action_left : Fault
  out_of_memory : Fault

-- the name of a kind of refusal
abbrev pub kind_text : Fault → Text
kind_text (action_attributes ids) = codes "UnsupportedFeature"
kind_text open_record = codes "UnsupportedFeature"
kind_text (undeclared_entity_types names) = codes "UndeclaredEntityTypes"
kind_text (type_not_defined references) = codes "TypeNotDefined"
kind_text (action_not_defined actions) = codes "ActionNotDefined"
kind_text (type_shadowing plain qualified) = codes "TypeShadowing"
kind_text (action_shadowing plain qualified) = codes "ActionShadowing"
kind_text (duplicate_entity_type name) = codes "DuplicateEntityType"
kind_text (duplicate_common_type name) = codes "DuplicateCommonType"
kind_text (duplicate_action uid) = codes "DuplicateAction"
kind_text (action_cycle uid) = codes "CycleInActionHierarchy"
kind_text (common_type_cycle name) = codes "CycleInCommonTypeReferences"
kind_text (action_entity_type name) = codes "ActionEntityTypeDeclared"
kind_text (shape_not_record name) = codes "ContextOrShapeNotRecord"
kind_text (context_not_record uid) = codes "ContextOrShapeNotRecord"
kind_text (unknown_extension_type name) = codes "UnknownExtensionType"
kind_text (reserved_name name) = codes "ReservedName"
kind_text (external_below_enumerated lower upper) = codes "ExternalWithEnumAncestor"
kind_text (enumerated_below lower upper) = codes "EnumEntityInHierarchy"
kind_text (undeclared_action_descendant uid) = codes "UndeclaredActionsDescendant"
kind_text (invalid_action_type uid) = codes "InvalidActionType"
kind_text common_type_left = codes "CommonTypeInvariantViolation"
kind_text action_left = codes "ActionInvariantViolation"
kind_text out_of_memory = codes "Memory"
