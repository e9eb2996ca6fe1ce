use Rattle.std.specs.Prelude.{List, [], ◌∷◌, Option, None, Some, map}
use Rattle.cedar_ast.specs.Words.{PlainName, type_name}
use Rattle.cedar_ast.specs.declared.entity_type.EntityType.{EntityType}
use Rattle.cedar_type_rules.specs.Ty.{Ty, union_of}
use Rattle.cedar_types.specs.declared.entity_lub.EntityLUB.{EntityLUB}

-- a union's entity types, in order
abbrev pub lub_types : EntityLUB → List EntityType
lub_types lub = lub.lub_elements.value.items

-- the only one of some entity types
abbrev pub only_type : List EntityType → Option EntityType
only_type [] = None
only_type (ty ∷ []) = Some ty
only_type (ty ∷ other ∷ rest) = None

-- the names of a union's entity types, in order
abbrev pub lub_names : EntityLUB → List PlainName
lub_names lub = map type_name (lub_types lub)

-- the type of the entities of a union
abbrev pub lub_ty : EntityLUB → Ty
lub_ty lub = union_of (lub_names lub)
