-- Uids that a new version of a schema loses.
use Rattle.std.specs.BTreeMap.{BTreeMap}
use Rattle.std.specs.Prelude.{◌≡◌, ◌⊎◌, Some, None, Contains}
use Rattle.cedar_ast.specs.Words.{PlainName, PlainUid, type_name}
use Rattle.cedar_ast.specs.declared.entity_type.EntityType.{EntityType}
use Rattle.cedar_ast.specs.declared.entity_uid.EntityUID.{EntityUID}
use Rattle.cedar_compare.specs.Ancestors.{upper_at}
use Rattle.cedar_counterexample.specs.LostIds.{IsLostUid, IsLostUidOf}
use Rattle.cedar_entities.specs.Exists.{Exists}
use Rattle.cedar_schema_semantics.specs.Words.{IsEnumerated, PlainSchema, SchemaEntityType}

-- no entity type of a schema is enumerated
abbrev pub EnumeratesNone : PlainSchema → Type 0
EnumeratesNone schema = (name : PlainName) (it : SchemaEntityType)
    → Contains schema.entity_types (name, it) → ¬ IsEnumerated it.kind

-- a uid exists in the old schema and not in the new
abbrev pub IsLostIn : PlainSchema → PlainSchema → PlainUid → Type 0
IsLostIn old new = IsLostUid (Exists old) (Exists new)

-- something is kept under an entity type of the name
abbrev pub IsKeptAt : BTreeMap EntityType EntityUID → PlainName → Type 0
IsKeptAt lost name =
    (key : EntityType) × (type_name key ≡ name) × ¬ (upper_at lost key ≡ None)

-- what is kept under entity types are lost uids of them, and something is kept for each lost uid
-- but for those that are left
pub record AreLostSoFar (old new : PlainSchema) (IsLeft : PlainUid → Type 0)
    (lost : BTreeMap EntityType EntityUID) : Type 0 where
  pub each : (name : EntityType) (uid : PlainUid) → upper_at lost name ≡ Some uid
      → IsLostUidOf (Exists old) (Exists new) (type_name name) uid
  pub all : (uid : PlainUid) → IsLostIn old new uid → IsLeft uid ⊎ IsKeptAt lost uid.ty

-- what is kept under entity types are lost uids of them, and something is kept for each lost uid
abbrev pub AreLostUids : PlainSchema → PlainSchema → BTreeMap EntityType EntityUID → Type 0
AreLostUids old new = AreLostSoFar old new (λ uid. ⊥)
