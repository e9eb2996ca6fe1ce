-- What is found on the way to an entity that is lost.
use Rattle.std.specs.Prelude.{◌≡◌, List, [], Option, Some, None, Contains}
use Rattle.cedar_ast.specs.Words.{Entries, IsValue, PlainName, PlainUid, Text, Tree, entry, map_value, no_entry}
use Rattle.cedar_ast.specs.declared.extension.Extensions.{Extensions}
use Rattle.cedar_compare.specs.Difference.{AreTagsApart, IsLoss, IsTypeCause, PlainCause, PlainDifference, subject_of, type_subject}
use Rattle.cedar_counterexample.specs.Between.{PlainBetween}
use Rattle.cedar_entities.specs.Entities.{AreTagsOf, IsEntityIn, MayStandAbove}
use Rattle.cedar_entities.specs.Naming.{NamesWhatExists}
use Rattle.cedar_schema_semantics.specs.Words.{ActionEntity, PlainSchema, SchemaEntityType, enumerated_kind}
use Rattle.cedar_type_rules.specs.Words.{Fields, Has, Ty, record_of}
use Rattle.cedar_type_rules.specs.declared.open_tag.OpenTag.{OpenTag}

-- values are a real record of a type that names what exists in the schema
abbrev pub IsSampleOf : Extensions → PlainSchema → Fields → OpenTag → Entries → Type 0
IsSampleOf extensions schema fields openness values =
    IsValue (map_value values) × Has extensions (map_value values) (record_of fields openness)
    × NamesWhatExists schema (map_value values)

-- tags of an entity are those of a type, and name what exists in the schema
abbrev pub AreTagsIn : Extensions → PlainSchema → Option Ty → Entries → Type 0
AreTagsIn extensions schema ty tags =
    AreTagsOf extensions ty tags × NamesWhatExists schema (map_value tags)

-- one tag, whose name is empty
abbrev pub one_tag : Tree → Entries
one_tag value = entry [] value no_entry

-- what is found of the tags of two types: a value of a tag that only the first has, or that all
-- tags of the one are tags of the other
abbrev pub IsTagOutside : Extensions → PlainSchema → PlainSchema → Option Ty → Option Ty
    → Option PlainBetween → Type 0
IsTagOutside extensions old new ty other None = (tags : Entries) → IsValue (map_value tags)
    → AreTagsIn extensions old ty tags → AreTagsIn extensions new other tags
IsTagOutside extensions old new ty other (Some found) =
    IsValue found.value × AreTagsIn extensions old ty (one_tag found.value)
    × (¬ AreTagsIn extensions new other (one_tag found.value))
    × AreTagsApart extensions old new found.steps found.lost ty other

-- a cause is true of each entity of a type that has the uid above it
abbrev pub IsAncestorCause : Extensions → PlainSchema → PlainSchema → PlainName → PlainUid
    → PlainCause → Type 0
IsAncestorCause extensions old new name upper cause = (it : ActionEntity) → it.uid.ty ≡ name
    → Contains it.ancestors upper → IsTypeCause extensions old new it cause

-- a uid may stand above an entity: it isn't the entity, and may stand above those of its type
abbrev pub MayStandOver : PlainSchema → PlainUid → PlainUid → Type 0
MayStandOver schema lower upper = (¬ (upper ≡ lower)) × MayStandAbove schema lower.ty upper

-- the entity of a uid, without attributes, tags and ancestors
abbrev pub bare_entity : PlainName → Text → ActionEntity
bare_entity name id = record {
  uid = record { ty = name; eid = id };
  attributes = no_entry;
  tags = no_entry;
  ancestors = [];
}

-- a difference is a true one of the entity type of a name
abbrev pub IsTypeLoss : Extensions → PlainSchema → PlainSchema → PlainName → PlainDifference
    → Type 0
IsTypeLoss extensions old new name difference =
    (subject_of difference ≡ type_subject name) × IsLoss extensions old new difference

-- what is found of a choice: that its entity is one of the new schema, or a true difference
abbrev pub IsChoiceAnswer : Extensions → PlainSchema → PlainSchema → PlainName → Text
    → Option PlainDifference → Type 0
IsChoiceAnswer extensions old new name id None = IsEntityIn extensions new (bare_entity name id)
IsChoiceAnswer extensions old new name id (Some difference) =
    IsTypeLoss extensions old new name difference

-- the entity of each of these choices of a type is one of the schema
abbrev pub AreKept : Extensions → PlainSchema → PlainName → List Text → Type 0
AreKept extensions new name kept =
    (id : Text) → Contains kept id → IsEntityIn extensions new (bare_entity name id)

-- the uid is a choice of an enumerated entity type of the schema
abbrev pub IsChoiceOf : PlainSchema → PlainUid → Type 0
IsChoiceOf schema uid = (it : SchemaEntityType) × Contains schema.entity_types (uid.ty, it)
    × ((choices : List Text) × (it.kind ≡ enumerated_kind choices) × Contains choices uid.eid)

-- what is found of what stands above entities of a type: a true difference, or that what may stand
-- above them still may
abbrev pub IsBelowAnswer : Extensions → PlainSchema → PlainSchema → PlainName
    → Option PlainDifference → Type 0
IsBelowAnswer extensions old new name None = (upper : PlainUid) → MayStandAbove old name upper
    → MayStandAbove new name upper
IsBelowAnswer extensions old new name (Some difference) =
    IsTypeLoss extensions old new name difference

-- what is found beside the attributes of a type: a true difference, or that its tags and what may
-- stand above its entities are kept
abbrev pub IsBesideAnswer : Extensions → PlainSchema → PlainSchema → PlainName → Option Ty
    → Option Ty → Option PlainDifference → Type 0
IsBesideAnswer extensions old new name tags other_tags None =
    IsTagOutside extensions old new tags other_tags None
    × ((upper : PlainUid) → MayStandAbove old name upper → MayStandAbove new name upper)
IsBesideAnswer extensions old new name tags other_tags (Some difference) =
    IsTypeLoss extensions old new name difference
