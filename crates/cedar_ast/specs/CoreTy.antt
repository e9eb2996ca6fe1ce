use Rattle.std.specs.Prelude.{Bool, List, [], ◌∷◌}
use Rattle.cedar_ast.specs.PlainName.{PlainName}
use Rattle.cedar_ast.specs.Text.{Text}

mutual
  -- a core type as plain data
  pub data CoreTy : Type 0 where
    core_truth : CoreTy
    core_long : CoreTy
    core_text : CoreTy
    core_set : CoreTy → CoreTy
    core_empty_set : CoreTy
    core_record : CoreFields → Bool → CoreTy
    core_entity : PlainName → CoreTy
    core_extension : PlainName → CoreTy

  -- the attributes of a core record type: for each its name, whether it is required, and its type
  pub data CoreFields : Type 0 where
    core_end : CoreFields
    core_field : Text → Bool → CoreTy → CoreFields → CoreFields

-- the attributes that some pairs of a name and an attribute give
abbrev pub core_fields_from : List (Text × (Bool × CoreTy)) → CoreFields
core_fields_from [] = core_end
core_fields_from (item ∷ rest) = core_field item.0 item.1.0 item.1.1 (core_fields_from rest)

-- the names of the attributes
abbrev pub core_names : CoreFields → List Text
core_names core_end = []
core_names (core_field name required ty rest) = name ∷ core_names rest
