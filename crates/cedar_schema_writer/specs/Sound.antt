-- What can be written in a namespace.
use Rattle.std.specs.Prelude.{Option, IsSome, Contains}
use Rattle.cedar_ast.specs.Words.{IsActionType, PlainName, PlainUid}
use Rattle.cedar_schema_semantics.specs.Words.{ActionKind, EntityTypeKind, HasAction, HasEntityType, IsContextOf, IsEnumerated, IsPathOf, IsPrincipalOrResourceOf, IsTypeOfKind, ListsDescendant, ListsDescendantAction, MentionsEntity, Names, NamesNoOther, NamesNoOtherAction, PlainSchema, SchemaAction, SchemaEntityType, type_written}
use Rattle.cedar_schema_writer.specs.Parts.{known_names, known_schema}
use Rattle.cedar_schema_writer.specs.declared.known.Known.{Known}
use Rattle.cedar_type_rules.specs.Ty.{Ty}

-- the type can be written in the namespace: it has an expression, and the names in it name no
-- others
pub record IsSoundType (names : Names) (namespace : Option PlainName) (ty : Ty) : Type 0 where
  pub written : IsSome (type_written namespace ty)
  pub no_other : (name : PlainName) → MentionsEntity ty name → NamesNoOther names namespace name

-- an entity type of the kind can be written, with these parents: its types can, and an enumerated
-- one has no parents
pub record IsSoundKind (names : Names) (namespace : Option PlainName) (IsAbove : PlainName → Type 0)
    (kind : EntityTypeKind) : Type 0 where
  pub types : (ty : Ty) → IsTypeOfKind kind ty → IsSoundType names namespace ty
  pub without_parents : IsEnumerated kind → (upper : PlainName) → ¬ IsAbove upper

-- an action of the kind can be written: its context can, and its principals and resources name no
-- others
pub record IsSoundAction (names : Names) (namespace : Option PlainName)
    (kind : ActionKind) : Type 0 where
  pub context : (ty : Ty) → IsContextOf kind ty → IsSoundType names namespace ty
  pub no_other : (name : PlainName) → IsPrincipalOrResourceOf kind name
      → NamesNoOther names namespace name

-- an entity type of the schema can be written in its namespace, with those as parents that have it
-- among their descendants, and its own descendants are there
pub record IsSoundTypeOf (names : Names) (schema : PlainSchema)
    (it : PlainName × SchemaEntityType) : Type 0 where
  pub kind : (namespace : Option PlainName) → IsPathOf namespace it.0.path
      → IsSoundKind names namespace (λ upper. ListsDescendant schema it.0 upper) it.1.kind
  pub above : (namespace : Option PlainName) → IsPathOf namespace it.0.path → (upper : PlainName)
      → ListsDescendant schema it.0 upper → NamesNoOther names namespace upper
  pub below : (lower : PlainName) → Contains it.1.descendants lower → HasEntityType schema lower

-- an action of the schema can be written in its namespace, with those as parents that have it among
-- their descendants, its uid is that of an action, and its own descendants are there
pub record IsSoundActionOf (names : Names) (schema : PlainSchema)
    (it : PlainUid × SchemaAction) : Type 0 where
  pub action_type : IsActionType it.0.ty
  pub kind : (namespace : Option PlainName) → IsPathOf namespace it.0.ty.path
      → IsSoundAction names namespace it.1.kind
  pub above : (namespace : Option PlainName) → IsPathOf namespace it.0.ty.path → (upper : PlainUid)
      → ListsDescendantAction schema it.0 upper → NamesNoOtherAction names namespace upper
  pub below : (lower : PlainUid) → Contains it.1.descendants lower → HasAction schema lower

-- an entity type that is known can be written
abbrev pub IsSoundEntityType : Known → PlainName × SchemaEntityType → Type 0
IsSoundEntityType known it = IsSoundTypeOf (known_names known) (known_schema known) it

-- an action that is known can be written
abbrev pub IsSoundActionEntry : Known → PlainUid × SchemaAction → Type 0
IsSoundActionEntry known it = IsSoundActionOf (known_names known) (known_schema known) it
