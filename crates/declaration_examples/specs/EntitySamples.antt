use Rattle.std.specs.Prelude.{true, List, [], ◌∷◌, codes}
use Rattle.cedar_ast.specs.Words.{PlainName, PlainUid, Text, Tree, entry, map_value, no_entry, no_tree, set_value, tree, uid_value}
use Rattle.cedar_entities.specs.Requests.{PlainRequest}
use Rattle.cedar_schema_semantics.specs.Words.{ActionEntity, PlainSchema, SchemaAction, alias_name, defined_action, enumerated_kind}
use Rattle.cedar_type_rules.specs.Ty.{Ty, end, field, record_of, set_of, union_of}
use Rattle.cedar_type_rules.specs.declared.open_tag.OpenTag.TheVariants.{ClosedAttributes}
use Rattle.declaration_examples.specs.WrittenSamples.{action_entry, action_named, schema_of_entries, type_entry, with_attribute}

-- the entity type `Role`, and the type of its entities
abbrev pub role : PlainName
role = alias_name (codes "Role")

abbrev pub role_type : Ty
role_type = union_of (role ∷ [])

-- the entity of `Role` with an id
abbrev pub role_named : Text → PlainUid
role_named id = record { ty = role; eid = id }

-- the action `view`, of users for users, with a set of roles in its context
abbrev pub view_entry : PlainUid × SchemaAction
view_entry = (
  action_named (codes "view"),
  record {
    uid = action_named (codes "view");
    kind = defined_action (alias_name (codes "User") ∷ []) (alias_name (codes "User") ∷ [])
        (record_of (field (codes "a") true (set_of role_type) end) ClosedAttributes);
    descendants = [];
  },
)

-- a schema in which `Role` has these choices, users have a role and may be above each other, and the
-- action `read` is external beside `view`
abbrev pub roles : List Text → PlainSchema
roles choices = schema_of_entries
    (type_entry role (enumerated_kind choices) []
    ∷ type_entry (alias_name (codes "User")) (with_attribute role_type)
    (alias_name (codes "User") ∷ []) ∷ [])
    (action_entry (action_named (codes "read")) [] ∷ view_entry ∷ [])

-- its roles are `admin` alone, or `editor` besides
abbrev pub one_role : PlainSchema
one_role = roles (codes "admin" ∷ [])

abbrev pub two_roles : PlainSchema
two_roles = roles (codes "admin" ∷ codes "editor" ∷ [])

-- the user that examples speak of
abbrev pub some_user : PlainUid
some_user = record { ty = alias_name (codes "User"); eid = codes "u" }

-- this user with a role and with these above
abbrev pub user_in_role : Text → List PlainUid → ActionEntity
user_in_role id ancestors = record {
  uid = some_user;
  attributes = entry (codes "a") (uid_value (role_named id)) no_entry;
  tags = no_entry;
  ancestors = ancestors;
}

-- a record with a set of one role
abbrev pub role_in_set : Text → Tree
role_in_set id = map_value (entry (codes "a")
    (set_value (tree (uid_value (role_named id)) no_tree)) no_entry)

-- a request to view with a role in its context
abbrev pub viewing_in_role : Text → PlainRequest
viewing_in_role id = record {
  principal = some_user;
  action = action_named (codes "view");
  resource = some_user;
  context = role_in_set id;
}
