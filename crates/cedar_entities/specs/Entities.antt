-- The entities that a schema admits.
use Rattle.std.specs.Prelude.{◌≡◌, ◌⊎◌, [], Option, Some, None, Contains}
use Rattle.cedar_ast.specs.Words.{Entries, IsValue, PlainName, PlainUid, Text, Tree, entry_at, map_value, no_entry, uid_value}
use Rattle.cedar_ast.specs.declared.extension.Extensions.{Extensions}
use Rattle.cedar_entities.specs.Exists.{IsIdOf}
use Rattle.cedar_entities.specs.Naming.{NamesWhatExists}
use Rattle.cedar_schema_semantics.specs.Words.{ActionEntity, EntityTypeKind, IsEntityOfAction, PlainSchema, SchemaEntityType, enumerated_kind, external_kind, standard_kind}
use Rattle.cedar_type_rules.specs.Words.{Has, Ty, record_of}

-- an entity is one of the language: its uid, its attributes, its tags and the uids above it are
abbrev pub IsReal : ActionEntity → Type 0
IsReal it =
    IsValue (uid_value it.uid) × IsValue (map_value it.attributes) × IsValue (map_value it.tags)
    × ((upper : PlainUid) → Contains it.ancestors upper → IsValue (uid_value upper))

-- each tag has the type; without a type there are none
abbrev pub AreTagsOf : Extensions → Option Ty → Entries → Type 0
AreTagsOf extensions None tags = tags ≡ no_entry
AreTagsOf extensions (Some ty) tags =
    (name : Text) (value : Tree) → entry_at name tags ≡ Some value → Has extensions value ty

-- the uid may stand above entities of a type: its type has that one among its descendants, and may
-- have its id
abbrev pub MayStandAbove : PlainSchema → PlainName → PlainUid → Type 0
MayStandAbove schema name upper =
    (it : SchemaEntityType) × Contains schema.entity_types (upper.ty, it)
    × Contains it.descendants name × IsIdOf it.kind upper.eid

-- the uids above an entity may stand there, and the entity itself isn't one of them
pub record AreAncestorsIn (schema : PlainSchema) (it : ActionEntity) : Type 0 where
  pub above : (upper : PlainUid) → Contains it.ancestors upper
      → MayStandAbove schema it.uid.ty upper
  pub not_itself : ¬ Contains it.ancestors it.uid

-- the attributes and the tags of an entity name what exists in the schema
pub record NamesOnlyExisting (schema : PlainSchema) (it : ActionEntity) : Type 0 where
  pub attributes : NamesWhatExists schema (map_value it.attributes)
  pub tags : NamesWhatExists schema (map_value it.tags)

-- an entity is of a kind: of a standard one with the attributes and tags of their types, which name
-- what exists, and with uids above it that may stand there; of an enumerated one a choice and
-- nothing else
abbrev pub IsEntityOfKind : Extensions → PlainSchema → EntityTypeKind → ActionEntity → Type 0
IsEntityOfKind extensions schema (standard_kind fields openness tags) it =
    Has extensions (map_value it.attributes) (record_of fields openness)
    × AreTagsOf extensions tags it.tags
    × NamesOnlyExisting schema it
    × AreAncestorsIn schema it
IsEntityOfKind extensions schema (enumerated_kind choices) it =
    Contains choices it.uid.eid × (it.attributes ≡ no_entry) × (it.tags ≡ no_entry)
    × (it.ancestors ≡ [])
IsEntityOfKind extensions schema external_kind it = ⊥

-- an entity is of an entity type of the schema
abbrev pub IsEntityOfType : Extensions → PlainSchema → ActionEntity → Type 0
IsEntityOfType extensions schema it =
    (ty : SchemaEntityType) × Contains schema.entity_types (it.uid.ty, ty)
    × IsEntityOfKind extensions schema ty.kind it

-- an entity of a schema: of one of its entity types, or of one of its actions
abbrev pub IsEntityIn : Extensions → PlainSchema → ActionEntity → Type 0
IsEntityIn extensions schema it =
    IsEntityOfType extensions schema it ⊎ IsEntityOfAction schema it
