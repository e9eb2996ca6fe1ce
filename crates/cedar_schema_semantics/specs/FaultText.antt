use Rattle.std.specs.Prelude.{◌++◌, codes, map}
use Rattle.cedar_ast.specs.Words.{PlainName, PlainUid, Text, joined, name_text, quoted_text, uid_text}
use Rattle.cedar_schema_ast.specs.ReferenceText.{action_reference_text, undeclared_types_text}
use Rattle.cedar_schema_semantics.specs.Fault.{Fault, action_attributes, open_record, undeclared_entity_types, type_not_defined, action_not_defined, type_shadowing, action_shadowing, duplicate_entity_type, duplicate_common_type, duplicate_action, action_cycle, common_type_cycle, action_entity_type, shape_not_record, context_not_record, unknown_extension_type, reserved_name, external_below_enumerated, enumerated_below, undeclared_action_descendant, invalid_action_type, common_type_left, action_left, out_of_memory}

-- a text about one name: what stands before it, the name, and what stands behind it
abbrev pub about_name : Text → PlainName → Text → Text
about_name before name after = before ++ (name_text name ++ after)

-- a text about two names, with a text between them
abbrev pub about_names : Text → PlainName → Text → PlainName → Text
about_names before first between second =
    before ++ (name_text first ++ (between ++ name_text second))

-- a text about one uid: what stands before it, the uid, and what stands behind it
abbrev pub about_uid : Text → PlainUid → Text → Text
about_uid before uid after = before ++ (uid_text uid ++ after)

-- a refusal as it is printed: with all that it names, names and uids in full, and ids in quotes
abbrev pub fault_text : Fault → Text
fault_text (action_attributes ids) =
    codes "attributes of actions are not supported: " ++ joined (codes ", ") (map quoted_text ids)
fault_text open_record =
    codes "records that admit more than their listed attributes are not supported"
fault_text (undeclared_entity_types names) =
    codes "no entity type is declared as " ++ joined (codes ", or as ") (map name_text names)
fault_text (type_not_defined references) = undeclared_types_text references
fault_text (action_not_defined actions) =
    codes "no action is declared as "
    ++ joined (codes ", or as ") (map (λ it. action_reference_text it.0 it.1) actions)
fault_text (type_shadowing plain qualified) =
    about_names (codes "the type ") qualified (codes " would shadow the type ") plain
fault_text (action_shadowing plain qualified) =
    codes "the action " ++ (uid_text qualified
    ++ (codes " would shadow the action " ++ uid_text plain))
fault_text (duplicate_entity_type name) =
    about_name (codes "the entity type ") name (codes " is declared twice")
fault_text (duplicate_common_type name) =
    about_name (codes "the common type ") name (codes " is declared twice")
fault_text (duplicate_action uid) = about_uid (codes "the action ") uid (codes " is declared twice")
fault_text (action_cycle uid) = about_uid (codes "the action ") uid (codes " is its own ancestor")
fault_text (common_type_cycle name) =
    about_name (codes "the definition of the common type ") name (codes " leads back to it")
fault_text (action_entity_type name) =
    about_name (codes "the entity type ") name (codes " has the name of an action type")
fault_text (shape_not_record name) =
    about_name (codes "the shape of the entity type ") name (codes " is no record type")
fault_text (context_not_record uid) =
    about_uid (codes "the context of the action ") uid (codes " is no record type")
fault_text (unknown_extension_type name) =
    about_name (codes "the extension type ") name (codes " is not known")
fault_text (reserved_name name) = about_name (codes "the name ") name (codes " is reserved")
fault_text (external_below_enumerated lower upper) =
    about_names (codes "the external type ") lower (codes " is below the enumerated type ") upper
fault_text (enumerated_below lower upper) =
    about_names (codes "the enumerated type ") lower (codes " is below the type ") upper
fault_text (undeclared_action_descendant uid) =
    about_uid (codes "the action ") uid (codes " is a descendant, but not declared")
fault_text (invalid_action_type uid) =
    about_uid (codes "the action ") uid (codes " has no action type")
fault_text common_type_left = codes "a reference to a common type was left"
fault_text action_left = codes "a reference to an action was left"
fault_text out_of_memory = codes "out of memory"
