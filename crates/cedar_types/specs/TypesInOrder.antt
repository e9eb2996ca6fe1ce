use Rattle.std.specs.List.Sorted.{IsStrictlySortedBy, IsStrictlySortedBy-prop}
use Rattle.std.specs.Prelude.{List, map}
use Rattle.cedar_ast.specs.Words.{name_cmp, type_name}
use Rattle.cedar_ast.specs.declared.entity_type.EntityType.{EntityType}

-- entity types stand in the order of their names, each once
abbrev pub AreInOrder : List EntityType → Type 0
AreInOrder types = IsStrictlySortedBy name_cmp (map type_name types)

-- this can hold in one way alone
pub AreInOrder-prop : (types : List EntityType) → IsProp (AreInOrder types)
AreInOrder-prop types = IsStrictlySortedBy-prop name_cmp (map type_name types)
