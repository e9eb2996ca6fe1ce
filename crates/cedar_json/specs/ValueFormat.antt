-- Which values of Cedar JSON values describe.
use Rattle.std.specs.BTreeMap.{BTreeMap, insert_entry}
use Rattle.std.specs.Prelude.{List, [], Option, Some, None, cond, codes, map, option_map, option_and_then, string_bytes}
use Rattle.std.specs.Str.{bytes_eq}
use Rattle.std.specs.declared.alloc.Global.{Global}
use Rattle.std.specs.declared.string.String.{String}
use Rattle.cedar_ast.specs.Words.{PlainName, PlainUid, Text, Tree, Trees, call_value, entries_from, map_value, no_tree, number_value, set_value, text_cmp, text_value, tree, tree_of, truth_value, uid_value}
use Rattle.cedar_ast.specs.declared.value.RestrictedExpr.{RestrictedExpr}
use Rattle.cedar_json.specs.Fields.{has_only, known_fields, text_held}
use Rattle.cedar_json.specs.TypeFormat.{if_so, later_field}
use Rattle.cedar_json.specs.WholeNumber.{whole_number}
use Rattle.cedar_json.specs.WrittenName.{plain_name_in}
use Rattle.cedar_json.specs.declared.fault.Row.TheVariants.{OfEntityUid, OfCall}
use Rattle.json.specs.Find.{get_member}
use Rattle.json.specs.Json.{Json, null, boolean, number, string, array, object, Items, no_items, item, Members, no_members, member}

-- values by text
abbrev pub Pairs : Type 0
Pairs = List (Text × Tree)

-- the plain data of the values of a record
abbrev pub written_exprs : BTreeMap (String Global) RestrictedExpr → Pairs
written_exprs it = map (λ entry. (string_bytes entry.0, tree_of entry.1)) it.entries

-- what the one member holds, where its key is the name
abbrev pub sole_held : Text → Members → Option Json
sole_held name no_members = None
sole_held name (member key j no_members) = cond (bytes_eq key name) (Some j) None
sole_held name (member key j (member other k rest)) = None

-- the uid over the name of its type and its id
abbrev pub uid_by : Option PlainName → Option Text → Option PlainUid
uid_by ty id = option_and_then (λ name. option_map (λ eid. record { ty = name; eid = eid }) id) ty

-- the uid that an object describes
abbrev pub uid_in : Json → Option PlainUid
uid_in j =
    if_so (has_only (known_fields OfEntityUid j) j)
    (uid_by (option_and_then plain_name_in (text_held (codes "type") j)) (text_held (codes "id") j))

-- the call over the function's name and what the argument describes
abbrev pub call_of : Option PlainName → Option Tree → Option Tree
call_of function argument = option_and_then (λ name.
    option_map (λ value. call_value name (tree value no_tree)) argument) function

-- the call that an object describes, over what its argument describes
abbrev pub call_by : Json → Option Tree → Option Tree
call_by j argument =
    if_so (has_only (known_fields OfCall j) j)
    (call_of (option_and_then plain_name_in (text_held (codes "fn") j)) argument)

-- a record of some values
abbrev pub record_of_pairs : Pairs → Tree
record_of_pairs pairs = map_value (entries_from pairs)

-- what an object describes, over what its one member holds if its key is `__entity` or `__extn`,
-- and over the call and the record that it may be
abbrev pub object_by : Option Json → Option Json → Option Tree → Option Pairs → Option Tree
object_by (Some uid) extension call pairs = option_map uid_value (uid_in uid)
object_by None (Some extension) call pairs = call
object_by None None call pairs = option_map record_of_pairs pairs

unfoldable mutual
  -- the value that a JSON value describes
  pub value_of : Json → Option Tree
  value_of null = None
  value_of (boolean b) = Some (truth_value b)
  value_of (number s) = option_map number_value (whole_number s)
  value_of (string s) = Some (text_value s)
  value_of (array js) = option_map set_value (values_of js)
  value_of (object ms) = object_by (sole_held (codes "__entity") ms) (sole_held (codes "__extn") ms)
      (first_call ms) (pairs_of ms [])

  -- the values that some items describe, in order
  pub values_of : Items → Option Trees
  values_of no_items = Some no_tree
  values_of (item j rest) = option_and_then (λ value.
      option_map (λ others. tree value others) (values_of rest)) (value_of j)

  -- the values that some members describe, put to those of the members before them
  pub pairs_of : Members → Pairs → Option Pairs
  pairs_of no_members before = Some before
  pairs_of (member key j rest) before =
      option_and_then (λ value. pairs_of rest (insert_entry text_cmp before key value)) (value_of j)

  -- the call that the first member describes
  pub first_call : Members → Option Tree
  first_call no_members = None
  first_call (member key j rest) = call_in j

  -- the call that an object describes
  pub call_in : Json → Option Tree
  call_in null = None
  call_in (boolean b) = None
  call_in (number s) = None
  call_in (string s) = None
  call_in (array js) = None
  call_in (object ms) = call_by (object ms) (argument_of ms)

  -- the value that the field `arg` describes
  pub argument_of : Members → Option Tree
  argument_of no_members = None
  argument_of (member key j rest) =
      later_field (get_member (codes "arg") rest) (argument_of rest)
      (cond (bytes_eq key (codes "arg")) (value_of j) None)
