-- The JSON values that Cedar's values are written as.
use Rattle.std.specs.Fmt.{signed_decimal}
use Rattle.std.specs.Prelude.{List, [], ◌∷◌, codes}
use Rattle.cedar_ast.specs.Words.{Entries, PlainUid, Text, Tree, Trees, call_value, entry, map_value, name_text, no_entry, no_tree, number_value, set_value, text_value, tree, truth_value, uid_value}
use Rattle.json.specs.Json.{Json, boolean, number, string, array, object, Items, no_items, item, Members, no_members, member}
use Rattle.json.specs.Token.{Token, begin_object, key}

-- the object of a uid
abbrev pub uid_document : PlainUid → Json
uid_document uid =
    object (member (codes "type") (string (name_text uid.ty))
    (member (codes "id") (string uid.eid) no_members))

unfoldable mutual
  -- the JSON value of a value
  pub value_document : Tree → Json
  value_document (truth_value b) = boolean b
  value_document (number_value z) = number (signed_decimal z)
  value_document (text_value text) = string text
  value_document (uid_value uid) =
      object (member (codes "__entity") (uid_document uid) no_members)
  value_document (set_value values) = array (value_items values)
  value_document (map_value values) = object (value_members values)
  value_document (call_value function args) =
      object (member (codes "__extn")
      (object (member (codes "fn") (string (name_text function)) (argument_members args)))
      no_members)

  -- the items of some values
  pub value_items : Trees → Items
  value_items no_tree = no_items
  value_items (tree value rest) = item (value_document value) (value_items rest)

  -- the members of some values, each under its text
  pub value_members : Entries → Members
  value_members no_entry = no_members
  value_members (entry name value rest) = member name (value_document value) (value_members rest)

  -- the field of each argument of a call; there is one where a call can be written
  pub argument_members : Trees → Members
  argument_members no_tree = no_members
  argument_members (tree value rest) =
      member (codes "arg") (value_document value) (argument_members rest)

-- the tokens that stand before the argument of a call of a function
abbrev pub call_opening : Text → List Token
call_opening function =
    begin_object ∷ key (codes "__extn") ∷ begin_object ∷ key (codes "fn") ∷ Token.string function
    ∷ key (codes "arg") ∷ []
