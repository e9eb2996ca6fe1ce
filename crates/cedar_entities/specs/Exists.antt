-- Which uids exist in a schema.
use Rattle.std.specs.Prelude.{Contains}
use Rattle.cedar_ast.specs.Words.{IsActionType, PlainUid, Text}
use Rattle.cedar_schema_semantics.specs.Words.{EntityTypeKind, HasAction, PlainSchema, SchemaEntityType, enumerated_kind}

-- an entity of the kind may have the id: of an enumerated type it is one of the choices
abbrev pub IsIdOf : EntityTypeKind → Text → Type 0
IsIdOf (enumerated_kind choices) id = Contains choices id
IsIdOf _ id = Unit {0}

-- where the type of the uid is one of the schema, it may have the uid's id
abbrev pub MayHaveId : PlainSchema → PlainUid → Type 0
MayHaveId schema uid =
    (it : SchemaEntityType) → Contains schema.entity_types (uid.ty, it) → IsIdOf it.kind uid.eid

-- a uid exists in a schema: of an enumerated entity type its choices do and no others (RFC 53), of
-- an action type the actions that the schema has, defined or external, and of any other type every
-- uid
pub record Exists (schema : PlainSchema) (uid : PlainUid) : Type 0 where
  pub choice : MayHaveId schema uid
  pub action : IsActionType uid.ty → HasAction schema uid
