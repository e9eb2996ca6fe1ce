use Rattle.std.specs.List.{flat_map}
use Rattle.std.specs.Prelude.{List, ◌++◌, codes, map}
use Rattle.cedar_ast.specs.Words.{PlainName, PlainUid, Text, name_text, type_name, uid_of, uid_text}
use Rattle.cedar_queries.specs.declared.completeness.CompleteError.{CompleteError}
use Rattle.cedar_queries.specs.declared.completeness.CompleteError.TheVariants as error

-- an external entity type as it is printed among others
abbrev pub external_type_text : PlainName → Text
external_type_text name = codes "; the entity type " ++ (name_text name ++ codes " is external")

-- an external action as it is printed among others
abbrev pub external_action_text : PlainUid → Text
external_action_text uid = codes "; the action " ++ (uid_text uid ++ codes " is external")

-- that a schema is incomplete, as it is printed: with all its external entity types and then all
-- its external actions
abbrev pub incomplete_text : List PlainName → List PlainUid → Text
incomplete_text types actions =
    codes "the schema is incomplete"
    ++ (flat_map external_type_text types ++ flat_map external_action_text actions)

-- why a schema wasn't found complete, as it is printed
abbrev pub complete_error_text : CompleteError → Text
complete_error_text (error.Incomplete it) =
    incomplete_text (map type_name it.entity_types.items) (map uid_of it.actions.items)
complete_error_text (error.Memory refused) = codes "out of memory"
