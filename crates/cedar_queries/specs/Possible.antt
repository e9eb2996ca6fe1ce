-- What types may have, over the entity types and actions of a schema.
use Rattle.std.specs.Option.{option_and_then, option_map_or}
use Rattle.std.specs.Prelude.{◌≡◌, ◌⊎◌, All, Any, Contains, List, Some, map}
use Rattle.cedar_ast.specs.Words.{IsActionType, PlainName, PlainUid, Text}
use Rattle.cedar_queries.specs.KnownAttributes.{declared_fields, type_at}
use Rattle.cedar_schema_semantics.specs.Words.{SchemaAction, SchemaEntityType, kind_openness, kind_tags}
use Rattle.cedar_type_rules.specs.Words.{Ty, any_entity, field_names, never, record_of, union_of}
use Rattle.cedar_type_rules.specs.declared.open_tag.OpenTag.TheVariants.{OpenAttributes}

-- the entity type is declared
abbrev pub IsDeclared : List (PlainName × SchemaEntityType) → PlainName → Type 0
IsDeclared types name = Contains (map (λ it. it.0) types) name

-- entities of the type may have attributes that aren't declared: it is no type of actions, and
-- isn't declared or is open
abbrev pub IsOpenType : List (PlainName × SchemaEntityType) → PlainName → Type 0
IsOpenType types name =
    ¬ IsActionType name × option_map_or (λ it.
    kind_openness it.kind) (type_at name types) OpenAttributes ≡ OpenAttributes

-- entities of the type may have the attribute
abbrev pub MemberMayHave : List (PlainName × SchemaEntityType) → Text → PlainName → Type 0
MemberMayHave types name member =
    IsOpenType types member ⊎ Contains (field_names (declared_fields types member)) name

-- values of the type may have the attribute
abbrev pub MayHaveAttribute : List (PlainName × SchemaEntityType) → Ty → Text → Type 0
MayHaveAttribute types never name = Unit {0}
MayHaveAttribute types any_entity name = Unit {0}
MayHaveAttribute types (union_of members) name = Any (MemberMayHave types name) members
MayHaveAttribute types (record_of fields openness) name =
    (openness ≡ OpenAttributes) ⊎ Contains (field_names fields) name
MayHaveAttribute types _ name = ⊥

-- entities of the type have tags
abbrev pub HasTags : List (PlainName × SchemaEntityType) → PlainName → Type 0
HasTags types name = (ty : Ty)
    × (option_and_then (λ it. kind_tags it.kind) (type_at name types) ≡ Some ty)

-- values of the type may have tags: of a union some member has, and of every other type nothing is
-- known
abbrev pub MayHaveTags : List (PlainName × SchemaEntityType) → Ty → Type 0
MayHaveTags types (union_of members) = Any (HasTags types) members
MayHaveTags types _ = Unit {0}

-- each entity type of a union is declared
abbrev pub AreDeclaredTypes : List (PlainName × SchemaEntityType) → Ty → Type 0
AreDeclaredTypes types (union_of members) = All (IsDeclared types) members
AreDeclaredTypes types _ = Unit {0}

-- the uid is that of an action of the schema, or of an entity type that is declared
abbrev pub IsKnownUid : List (PlainName × SchemaEntityType) → List (PlainUid × SchemaAction)
    → PlainUid → Type 0
IsKnownUid types actions uid =
    (IsActionType uid.ty × Contains (map (λ it. it.0) actions) uid)
    ⊎ (¬ IsActionType uid.ty × IsDeclared types uid.ty)
