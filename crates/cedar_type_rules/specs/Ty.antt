use Rattle.std.specs.Prelude.{Bool, if◌then◌else◌, List, [], ◌∷◌, Option, None, Some}
use Rattle.std.specs.Str.{bytes_eq}
use Rattle.cedar_ast.specs.Words.{PlainName, Text}
use Rattle.cedar_type_rules.specs.declared.bool_type.BoolType.{BoolType}
use Rattle.cedar_type_rules.specs.declared.open_tag.OpenTag.{OpenTag}

mutual
  -- a type as plain data: no locations, no pointers, no containers
  pub data Ty : Type 0 where
    never : Ty
    truth : BoolType → Ty
    long : Ty
    text : Ty
    any_entity : Ty
    union_of : List PlainName → Ty
    any_set : Ty
    set_of : Ty → Ty
    record_of : Fields → OpenTag → Ty
    extension_of : PlainName → Ty

  -- the attributes of a record: for each its name, whether it is required, and its type
  pub data Fields : Type 0 where
    end : Fields
    field : Text → Bool → Ty → Fields → Fields

-- the attributes that some pairs of a name and an attribute give, in the order of the pairs
abbrev pub fields_from : List (Text × (Bool × Ty)) → Fields
fields_from [] = end
fields_from (item ∷ rest) = field item.0 item.1.0 item.1.1 (fields_from rest)

-- the attribute of that name: whether it is required, and its type
abbrev pub field_at : Text → Fields → Option (Bool × Ty)
field_at name end = None
field_at name (field other required ty rest) =
    if bytes_eq name other then Some (required, ty) else field_at name rest
