-- The JSON values that declarations, definitions and fragments are written as.
use Rattle.std.specs.Prelude.{List, [], ◌∷◌, false, Option, Some, None, option_map, codes, map}
use Rattle.cedar_ast.specs.Words.{PlainName, Text, entries_from, name_text}
use Rattle.cedar_json.specs.Words.{Pairs, WrittenAction, WrittenDefinition, WrittenEntity, WrittenFragment, WrittenParent}
use Rattle.cedar_json_writer.specs.TypeDocument.{reference_text, shape_held, type_document}
use Rattle.cedar_json_writer.specs.ValueDocument.{value_members}
use Rattle.cedar_json_writer.specs.WrittenFields.{flag_held, keyed_members, optional_member, text_array}
use Rattle.cedar_schema_ast.specs.Words.{EntityBody, Expr, Reference, Requests, elsewhere, enumerated, external, requests, standard}
use Rattle.json.specs.Json.{Json, string, array, object, Members, no_members, member}
use Rattle.json.specs.Value.{items_of}

-- the array of some references
abbrev pub reference_array : List Reference → Json
reference_array references = text_array (map reference_text references)

-- what is written in a field for parents: nothing where there are none
abbrev pub parents_held : List Reference → Option Json
parents_held [] = None
parents_held (first ∷ rest) = Some (reference_array (first ∷ rest))

-- the fields of what is declared of an entity type, before others; no declaration as it was written
-- has the third form
abbrev pub body_members : EntityBody → Members → Members
body_members (standard parents shape tags) rest =
    optional_member (codes "memberOfTypes") (parents_held parents)
    (optional_member (codes "shape") (shape_held shape)
    (optional_member (codes "tags") (option_map type_document tags) rest))
body_members (enumerated ids) rest = member (codes "enum") (text_array ids) rest
body_members (external parents) rest =
    optional_member (codes "memberOfTypes") (parents_held parents) rest

-- the object of an entity type
abbrev pub entity_type_document : WrittenEntity → Json
entity_type_document it =
    object (body_members it.body
    (optional_member (codes "external") (flag_held false it.external) no_members))

-- the object of a parent of an action
abbrev pub parent_document : WrittenParent → Json
parent_document it =
    object (member (codes "id") (string it.0)
    (optional_member (codes "type") (option_map (λ ty. string (reference_text ty)) it.1)
    no_members))

-- the object of the requests that an action is for; no declaration as it was written has the second
-- form
abbrev pub requests_document : Requests → Json
requests_document (requests principals resources context) =
    object (member (codes "principalTypes") (reference_array principals)
    (member (codes "resourceTypes") (reference_array resources)
    (optional_member (codes "context") (shape_held context) no_members)))
requests_document elsewhere = object no_members

-- the array of the parents of an action
abbrev pub parent_array : List WrittenParent → Json
parent_array parents = array (items_of (map parent_document parents))

-- the object of an action's attributes
abbrev pub pairs_document : Pairs → Json
pairs_document pairs = object (value_members (entries_from pairs))

-- the object of an action
abbrev pub action_document : WrittenAction → Json
action_document it =
    object (optional_member (codes "appliesTo") (option_map requests_document it.applies_to)
    (optional_member (codes "memberOf") (option_map parent_array it.member_of)
    (optional_member (codes "attributes") (option_map pairs_document it.attributes)
    (optional_member (codes "external") (flag_held false it.external) no_members))))

-- the members of what is declared, each under its id
abbrev pub declared_members : {A : Type 0} → (A → Json) → List (Text × A) → Members
declared_members document entries =
    keyed_members (map (λ entry. (entry.0, document entry.1)) entries)

-- what is written in a field for common types: nothing where there are none
abbrev pub common_types_held : List (Text × Expr) → Option Json
common_types_held [] = None
common_types_held (first ∷ rest) = Some (object (declared_members type_document (first ∷ rest)))

-- the object of the definition of a namespace
abbrev pub definition_document : WrittenDefinition → Json
definition_document it =
    object (member (codes "entityTypes")
    (object (declared_members entity_type_document it.entity_types))
    (member (codes "actions") (object (declared_members action_document it.actions))
    (optional_member (codes "commonTypes") (common_types_held it.common_types) no_members)))

-- the text of a namespace, which is empty for the empty one
abbrev pub namespace_text : Option PlainName → Text
namespace_text None = []
namespace_text (Some name) = name_text name

-- the object of a fragment
abbrev pub fragment_document : WrittenFragment → Json
fragment_document it = object (keyed_members
    (map (λ entry. (namespace_text entry.0, definition_document entry.1)) it))
