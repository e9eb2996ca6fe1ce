-- Schemas, one below another, by what permissive subtyping allows.
use Rattle.std.specs.Prelude.{◌≡◌, ◌↔◌, Option, Some, None, Contains}
use Rattle.cedar_ast.specs.Words.{Included, PlainName, PlainUid}
use Rattle.cedar_ast.specs.declared.validation_mode.ValidationMode.TheVariants.{Permissive}
use Rattle.cedar_schema_semantics.specs.Words.{ActionKind, EntityTypeKind, HasEntityType, IsEnumerated, ListsDescendantAction, PlainSchema, SchemaAction, SchemaEntityType, defined_action, enumerated_kind, external_action, external_kind, standard_kind}
use Rattle.cedar_type_rules.specs.Words.{Below, Ty, record_of}

-- tags go over to another type: there are none, or their type is below that one
abbrev pub TagsBelow : Option Ty → Option Ty → Type 0
TagsBelow None upper = Unit {0}
TagsBelow (Some lower) None = ⊥
TagsBelow (Some lower) (Some upper) = Below Permissive lower upper

-- a kind is below another: its attributes are in permissive mode, and its tags go over; or its
-- choices are among the other's
abbrev pub KindBelow : EntityTypeKind → EntityTypeKind → Type 0
KindBelow (standard_kind lower openness tags) (standard_kind upper upper_openness upper_tags) =
    Below Permissive (record_of lower openness) (record_of upper upper_openness)
    × TagsBelow tags upper_tags
KindBelow (enumerated_kind lower) (enumerated_kind upper) = Included lower upper
KindBelow external_kind external_kind = Unit {0}
KindBelow _ _ = ⊥

-- an action goes over to another: it is for no more principals and resources, and its context is
-- below in permissive mode
abbrev pub ActionBelow : ActionKind → ActionKind → Type 0
ActionBelow (defined_action principals resources context)
    (defined_action more_principals more_resources upper) =
    Included principals more_principals × Included resources more_resources
    × Below Permissive context upper
ActionBelow external_action external_action = Unit {0}
ActionBelow _ _ = ⊥

-- a schema is below another: each of its entity types is one of the other, of a kind above and with
-- no fewer descendants; each that is enumerated in the other is one of this; its actions go over,
-- and stand below just the same ones; and names of entity types stand for one in the other
pub record SchemaBelow (old new : PlainSchema) : Type 0 where
  pub entity_types : (name : PlainName) (it : SchemaEntityType)
      → Contains old.entity_types (name, it)
      → (other : SchemaEntityType) × Contains new.entity_types (name, other)
      × KindBelow it.kind other.kind × Included it.descendants other.descendants
  pub enumerated : (name : PlainName) (it : SchemaEntityType)
      → Contains new.entity_types (name, it) → IsEnumerated it.kind → HasEntityType old name
  pub actions : (uid : PlainUid) (it : SchemaAction) → Contains old.actions (uid, it)
      → (other : SchemaAction) × Contains new.actions (uid, other) × ActionBelow it.kind other.kind
  pub listed : (lower upper : PlainUid) → ListsDescendantAction old lower upper
      ↔ ListsDescendantAction new lower upper
  pub once : (name : PlainName) (it other : SchemaEntityType)
      → Contains new.entity_types (name, it) → Contains new.entity_types (name, other)
      → it ≡ other
