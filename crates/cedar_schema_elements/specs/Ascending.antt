-- What stands among the descendants of an entity type and of an action: each once, in order.
use Rattle.std.specs.List.Sorted.{IsStrictlySortedBy, IsStrictlySortedBy-prop}
use Rattle.std.specs.Prelude.{List}
use Rattle.cedar_ast.specs.contracts.entity_type.EntityTypeOrd.TheImpl as type_ord
use Rattle.cedar_ast.specs.contracts.entity_uid.EntityUIDOrd.TheImpl as uid_ord
use Rattle.cedar_ast.specs.declared.entity_type.EntityType.{EntityType}
use Rattle.cedar_ast.specs.declared.entity_uid.EntityUID.{EntityUID}

-- each entity type comes before those behind it
abbrev pub TypesAscend : List EntityType → Type 0
TypesAscend types = IsStrictlySortedBy (type_ord.ghosts).cmp types

-- this can hold in one way alone
pub TypesAscend-prop : (types : List EntityType) → IsProp (TypesAscend types)
TypesAscend-prop types = IsStrictlySortedBy-prop (type_ord.ghosts).cmp types

-- each uid comes before those behind it
abbrev pub UidsAscend : List EntityUID → Type 0
UidsAscend uids = IsStrictlySortedBy (uid_ord.ghosts).cmp uids

-- this can hold in one way alone
pub UidsAscend-prop : (uids : List EntityUID) → IsProp (UidsAscend uids)
UidsAscend-prop uids = IsStrictlySortedBy-prop (uid_ord.ghosts).cmp uids
