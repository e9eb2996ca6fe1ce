use Rattle.std.specs.Prelude.{Bool, true, false, List, Option, Some, None}
use Rattle.cedar_ast.specs.PlainName.{PlainName}
use Rattle.cedar_type_rules.specs.Ty.{Ty, any_entity, union_of, set_of}

-- whether the values of a type are entities
abbrev pub is_entity : Ty → Bool
is_entity any_entity = true
is_entity (union_of names) = true
is_entity _ = false

-- the names of the entity types of a union
abbrev pub kind_names : Ty → Option (List PlainName)
kind_names (union_of names) = Some names
kind_names _ = None

-- the names of the entity types of a union, or of a set's elements
abbrev pub set_or_kind_names : Ty → Option (List PlainName)
set_or_kind_names (set_of element) = kind_names element
set_or_kind_names ty = kind_names ty
