-- Schemas of one entity type, for worked examples.
use Rattle.std.specs.Prelude.{[], ◌∷◌, Bool, None, codes}
use Rattle.cedar_ast.specs.Words.{PlainName, Text}
use Rattle.cedar_schema_semantics.specs.Words.{EntityTypeKind, PlainSchema, SchemaEntityType, enumerated_kind, standard_kind}
use Rattle.cedar_type_rules.specs.Ty.{end, field, long}
use Rattle.cedar_type_rules.specs.declared.open_tag.OpenTag.TheVariants.{ClosedAttributes}

-- the name `User`
abbrev pub user : PlainName
user = record { base = codes "User"; path = [] }

-- the entity type `User` of a kind, with nothing below it
abbrev pub user_of : EntityTypeKind → SchemaEntityType
user_of kind = record { name = user; kind = kind; descendants = [] }

-- the schema of that entity type alone
abbrev pub users : EntityTypeKind → PlainSchema
users kind = record {
  entity_types = (user, user_of kind) ∷ [];
  actions = [];
  action_entities = [];
}

-- entities without attributes and tags
abbrev pub without_attributes : EntityTypeKind
without_attributes = standard_kind end ClosedAttributes None

-- entities with a number `age`, which may be required, and no tags
abbrev pub with_age : Bool → EntityTypeKind
with_age required = standard_kind (field (codes "age") required long end) ClosedAttributes None

-- entities of one id
abbrev pub choice : Text → EntityTypeKind
choice id = enumerated_kind (id ∷ [])
