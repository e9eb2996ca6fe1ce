-- What single declarations of a bag give.
use Rattle.std.specs.List.{flat_map}
use Rattle.std.specs.Prelude.{List, ◌++◌, map}
use Rattle.cedar_ast.specs.Words.{PlainName, PlainUid}
use Rattle.cedar_schema_ast.specs.Words.{Declaration}
use Rattle.cedar_schema_semantics.specs.Words.{action_definition_in, action_in, common_in, declared_name, declared_uid, entity_definitions, entity_in}

-- the name of the common type that is declared, if one is
abbrev pub common_names_in : Declaration → List PlainName
common_names_in it = map (λ each. each.0) (common_in (declared_name it) it.body)

-- the name of the entity type that is declared, if one is
abbrev pub entity_names_in : Declaration → List PlainName
entity_names_in it = map (λ each. each.0) (entity_in (declared_name it) it.body)

-- the name of the type that is declared, common or entity, if one is
abbrev pub type_names_in : Declaration → List PlainName
type_names_in it = common_names_in it ++ entity_names_in it

-- the uid of the action that is declared, if one is
abbrev pub action_uids_in : Declaration → List PlainUid
action_uids_in it = map (λ each. each.0) (action_in (declared_uid it) it.body)

-- the name of the entity type that is defined, if one is
abbrev pub defined_entities_in : Declaration → List PlainName
defined_entities_in it = map (λ each. each.0)
    (entity_definitions (entity_in (declared_name it) it.body))

-- the uid of the action that is defined, if one is
abbrev pub defined_actions_in : Declaration → List PlainUid
defined_actions_in it = map (λ each. each.0)
    (flat_map (λ each. action_definition_in each.0 each.1.applies_to)
    (action_in (declared_uid it) it.body))
