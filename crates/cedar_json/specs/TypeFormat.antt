-- Which types JSON values describe.
use Rattle.std.specs.BTreeMap.{insert_entry}
use Rattle.std.specs.Prelude.{List, [], Bool, true, false, cond, Option, Some, None, option_map, option_and_then, codes}
use Rattle.std.specs.Str.{bytes_eq}
use Rattle.cedar_ast.specs.Text.{Text, text_cmp}
use Rattle.cedar_json.specs.Fields.{annotations_fit, flag_or, has_only, known_fields, text_held}
use Rattle.cedar_json.specs.WrittenName.{is_unreserved, spelled_name}
use Rattle.cedar_json.specs.declared.fault.Row.{Row}
use Rattle.cedar_json.specs.declared.fault.Row.TheVariants.{OfType, OfAttribute}
use Rattle.cedar_schema_ast.specs.Words.{Expr, extension_expr, long_expr, members_from, named, record_expr, reference_to, set_expr, text_expr, truth_expr}
use Rattle.cedar_schema_ast.specs.declared.json_schema.reference_type.ReferenceType.{ReferenceType}
use Rattle.cedar_schema_ast.specs.declared.json_schema.reference_type.ReferenceType.TheVariants.{Common, Entity, CommonOrEntity}
use Rattle.json.specs.Find.{get, get_member}
use Rattle.json.specs.Json.{Json, null, boolean, number, string, array, object, Members, no_members, member}

-- the attributes of a record, in the order of their names: for each whether it is required, and its
-- type
abbrev pub Attributes : Type 0
Attributes = List (Text × (Bool × Expr))

-- what there is where a test holds
abbrev pub if_so : {A : Type 0} → Bool → Option A → Option A
if_so true o = o
if_so false o = None

-- the reference of a kind that a text spells, as it was written
abbrev pub reference_in : ReferenceType → Text → Option Expr
reference_in kind text = option_map (λ name.
    named (reference_to None kind name)) (spelled_name text)

-- the extension type that a text names
abbrev pub extension_in : Text → Option Expr
extension_in text = cond (is_unreserved text) (Some (extension_expr text)) None

-- the record type of some attributes, which may permit others
abbrev pub record_of : Option Bool → Option Attributes → Option Expr
record_of additional attributes =
    option_and_then (λ all. option_map (record_expr (members_from all)) additional) attributes

-- the type of a word, over what the fields of the object describe: its `element`, its `attributes`,
-- whether it permits other attributes, and its `name`
abbrev pub type_by_word : Text → Option Expr → Option Attributes → Option Bool → Option Text
    → Option Expr
type_by_word word element attributes additional name =
    cond (bytes_eq word (codes "String")) (Some text_expr)
    (cond (bytes_eq word (codes "Long")) (Some long_expr)
    (cond (bytes_eq word (codes "Boolean")) (Some truth_expr)
    (cond (bytes_eq word (codes "Set")) (option_map set_expr element)
    (cond (bytes_eq word (codes "Record")) (record_of additional attributes)
    (cond (bytes_eq word (codes "Entity")) (option_and_then (reference_in Entity) name)
    (cond (bytes_eq word (codes "EntityOrCommon"))
    (option_and_then (reference_in CommonOrEntity) name)
    (cond (bytes_eq word (codes "Extension")) (option_and_then extension_in name)
    (reference_in Common word))))))))

-- whether a record permits other attributes than those listed
abbrev pub additional_field : Json → Option Bool
additional_field j = flag_or false (get (codes "additionalAttributes") j)

-- the type that an object of a kind describes, over what its recursive fields do
abbrev pub type_by : Row → Json → Option Expr → Option Attributes → Option Expr
type_by row j element attributes =
    option_and_then
    (λ word. if_so (has_only (known_fields row j) j)
    (type_by_word word element attributes (additional_field j) (text_held (codes "name") j)))
    (text_held (codes "type") j)

-- the attribute that an object describes: whether it is required, and its type
abbrev pub attribute_by : Json → Option Expr → Option (Bool × Expr)
attribute_by j ty =
    option_and_then (λ required. if_so (annotations_fit (get (codes "annotations") j))
    (option_map (λ t. (required, t)) ty))
    (flag_or true (get (codes "required") j))

-- what a field is taken as: the later one of its name, where there is one
abbrev pub later_field : {A : Type 0} → Option Json → Option A → Option A → Option A
later_field (Some j) later here = later
later_field None later here = here

unfoldable mutual
  -- the type that a value describes
  pub type_of : Json → Option Expr
  type_of null = None
  type_of (boolean b) = None
  type_of (number s) = None
  type_of (string s) = None
  type_of (array js) = None
  type_of (object ms) = type_by OfType (object ms) (element_of ms) (attributes_in ms)

  -- the type that the field `element` describes
  pub element_of : Members → Option Expr
  element_of no_members = None
  element_of (member key j rest) =
      later_field (get_member (codes "element") rest) (element_of rest)
      (cond (bytes_eq key (codes "element")) (type_of j) None)

  -- the attributes that the field `attributes` describes
  pub attributes_in : Members → Option Attributes
  attributes_in no_members = None
  attributes_in (member key j rest) =
      later_field (get_member (codes "attributes") rest) (attributes_in rest)
      (cond (bytes_eq key (codes "attributes")) (attributes_held j) None)

  -- the attributes that a value describes
  pub attributes_held : Json → Option Attributes
  attributes_held null = None
  attributes_held (boolean b) = None
  attributes_held (number s) = None
  attributes_held (string s) = None
  attributes_held (array js) = None
  attributes_held (object ms) = attributes_of ms []

  -- the attributes that some members describe, put to those of the members before them
  pub attributes_of : Members → Attributes → Option Attributes
  attributes_of no_members before = Some before
  attributes_of (member key j rest) before =
      option_and_then (λ it. attributes_of rest (insert_entry text_cmp before key it))
      (attribute_of j)

  -- the attribute that a value describes
  pub attribute_of : Json → Option (Bool × Expr)
  attribute_of null = None
  attribute_of (boolean b) = None
  attribute_of (number s) = None
  attribute_of (string s) = None
  attribute_of (array js) = None
  attribute_of (object ms) =
      attribute_by (object ms) (type_by OfAttribute (object ms) (element_of ms) (attributes_in ms))

-- the type that the field `element` describes
abbrev pub element_field : Json → Option Expr
element_field j = option_and_then type_of (get (codes "element") j)

-- the attributes that the field `attributes` describes
abbrev pub attributes_field : Json → Option Attributes
attributes_field j = option_and_then attributes_held (get (codes "attributes") j)

-- the type that an object of a kind describes
abbrev pub type_with : Row → Json → Option Expr
type_with row j = type_by row j (element_field j) (attributes_field j)
