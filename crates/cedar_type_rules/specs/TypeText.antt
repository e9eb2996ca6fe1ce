use Rattle.std.specs.Prelude.{Bool, true, false, List, [], ◌∷◌, ◌++◌, codes}
use Rattle.cedar_ast.specs.Words.{PlainName, Text, name_text}
use Rattle.cedar_type_rules.specs.BoolType.{bool_text}
use Rattle.cedar_type_rules.specs.Ty.{Ty, never, truth, long, text, any_entity, union_of, any_set, set_of, record_of, extension_of, Fields, end, field}
use Rattle.cedar_type_rules.specs.declared.open_tag.OpenTag.{OpenTag}
use Rattle.cedar_type_rules.specs.declared.open_tag.OpenTag.TheVariants.{OpenAttributes, ClosedAttributes}

-- names as they are printed, with `, ` between them
abbrev pub names_text : List PlainName → Text
names_text [] = []
names_text (name ∷ []) = name_text name
names_text (name ∷ other ∷ rest) = name_text name ++ codes ", " ++ names_text (other ∷ rest)

-- a union as it is printed: the name of the only entity type, or the names of all in their order
abbrev pub union_text : List PlainName → Text
union_text (name ∷ []) = name_text name
union_text names = codes "__cedar::internal::Union<" ++ names_text names ++ codes ">"

-- what stands before the attributes of an open record
abbrev pub tag_text : OpenTag → Text
tag_text OpenAttributes = codes "__cedar::internal::OpenRecord"
tag_text ClosedAttributes = []

-- what stands between the name of an attribute and its type
abbrev pub mark_text : Bool → Text
mark_text true = codes ": "
mark_text false = codes "?: "

abbrev mutual
  -- a type as it is printed
  pub ty_text : Ty → Text
  ty_text never = codes "__cedar::internal::Never"
  ty_text (truth known) = bool_text known
  ty_text long = codes "Long"
  ty_text text = codes "String"
  ty_text any_entity = codes "__cedar::internal::AnyEntity"
  ty_text (union_of names) = union_text names
  ty_text any_set = codes "Set<__cedar::internal::Any>"
  ty_text (set_of ty) = codes "Set<" ++ ty_text ty ++ codes ">"
  ty_text (record_of fields openness) =
      tag_text openness ++ codes "{" ++ fields_text fields ++ codes "}"
  ty_text (extension_of name) = name_text name

  -- the attributes of a record as they are printed, each with a comma behind it
  pub fields_text : Fields → Text
  fields_text end = []
  fields_text (field name required ty rest) =
      name ++ mark_text required ++ ty_text ty ++ codes "," ++ fields_text rest
