-- The JSON values that types are written as.
use Rattle.std.specs.Prelude.{List, [], ◌∷◌, Bool, true, false, Option, Some, None, cond, codes}
use Rattle.cedar_ast.specs.Words.{PlainName, Text, name_text}
use Rattle.cedar_json_writer.specs.WrittenFields.{flag_held, optional_member}
use Rattle.cedar_schema_ast.specs.Expr.{Members as AttributeList, no_member as no_attribute, member as attribute}
use Rattle.cedar_schema_ast.specs.Words.{Expr, Reference, extension_expr, long_expr, named, record_expr, set_expr, text_expr, truth_expr}
use Rattle.cedar_schema_ast.specs.declared.json_schema.reference_type.ReferenceType.{ReferenceType}
use Rattle.cedar_schema_ast.specs.declared.json_schema.reference_type.ReferenceType.TheVariants.{Common, Entity, CommonOrEntity}
use Rattle.json.specs.Json.{Json, string, object, Members, no_members, member}
use Rattle.json.specs.Token.{Token, key}

-- the text of the first of some names
abbrev pub first_text : List PlainName → Text
first_text [] = []
first_text (name ∷ rest) = name_text name

-- the text that a reference is written as: that of the one name that it may stand for
abbrev pub reference_text : Reference → Text
reference_text reference = first_text reference.possibilities

-- the fields of a reference of a kind, before others
abbrev pub reference_members : ReferenceType → Text → Members → Members
reference_members Common text rest = member (codes "type") (string text) rest
reference_members Entity text rest =
    member (codes "type") (string (codes "Entity")) (member (codes "name") (string text) rest)
reference_members CommonOrEntity text rest =
    member (codes "type") (string (codes "EntityOrCommon"))
    (member (codes "name") (string text) rest)

unfoldable mutual
  -- the fields of a type, before others
  pub type_members : Expr → Members → Members
  type_members text_expr rest = member (codes "type") (string (codes "String")) rest
  type_members long_expr rest = member (codes "type") (string (codes "Long")) rest
  type_members truth_expr rest = member (codes "type") (string (codes "Boolean")) rest
  type_members (set_expr element) rest =
      member (codes "type") (string (codes "Set"))
      (member (codes "element") (object (type_members element no_members)) rest)
  type_members (record_expr all additional) rest =
      member (codes "type") (string (codes "Record"))
      (member (codes "attributes") (object (attribute_members all))
      (optional_member (codes "additionalAttributes") (flag_held false additional) rest))
  type_members (named reference) rest =
      reference_members reference.kind (reference_text reference) rest
  type_members (extension_expr name) rest =
      member (codes "type") (string (codes "Extension"))
      (member (codes "name") (string name) rest)

  -- the attributes of a record type, each under its name
  pub attribute_members : AttributeList → Members
  attribute_members no_attribute = no_members
  attribute_members (attribute name required ty rest) =
      member name (object (type_members ty
      (optional_member (codes "required") (flag_held true required) no_members)))
      (attribute_members rest)

-- the object of an attribute
abbrev pub attribute_document : Bool → Expr → Json
attribute_document required ty =
    object (type_members ty
    (optional_member (codes "required") (flag_held true required) no_members))

-- the tokens of the word of a form, and of the key of the field of what types are within
abbrev pub form_opening : Text → Text → List Token
form_opening word within =
    key (codes "type") ∷ Token.string word ∷ key within ∷ []

-- the object of a type
abbrev pub type_document : Expr → Json
type_document ty = object (type_members ty no_members)

-- the type is the closed record without attributes
abbrev pub is_empty_record : Expr → Bool
is_empty_record text_expr = false
is_empty_record long_expr = false
is_empty_record truth_expr = false
is_empty_record (set_expr element) = false
is_empty_record (record_expr no_attribute true) = false
is_empty_record (record_expr no_attribute false) = true
is_empty_record (record_expr (attribute name required ty rest) additional) = false
is_empty_record (named reference) = false
is_empty_record (extension_expr name) = false

-- what is written in a field for a shape or a context: nothing for the closed record without
-- attributes
abbrev pub shape_held : Expr → Option Json
shape_held ty = cond (is_empty_record ty) None (Some (type_document ty))
