-- Uids that a schema doesn't name.
use Rattle.std.specs.Prelude.{◌≡◌, ◌≤◌, ℕ, List, Some, Contains, length}
use Rattle.cedar_ast.specs.Words.{PlainName, PlainUid, Text}
use Rattle.cedar_compare.specs.Choices.{kind_choices}
use Rattle.cedar_schema_semantics.specs.Words.{HasAction, PlainSchema, SchemaEntityType}

-- the uid is of the type, and the schema names it nowhere: it is no action of it, and no choice of
-- an entity type of it
pub record IsFreshIn (schema : PlainSchema) (name : PlainName) (uid : PlainUid) : Type 0 where
  pub ty : uid.ty ≡ name
  pub no_action : ¬ HasAction schema uid
  pub no_choice : (it : SchemaEntityType) (choices : List Text)
      → Contains schema.entity_types (name, it) → kind_choices it.kind ≡ Some choices
      → ¬ Contains choices uid.eid

-- no choice of the entity type of the name is longer
abbrev pub NoLongerChoice : PlainSchema → PlainName → ℕ → Type 0
NoLongerChoice schema name longest = (it : SchemaEntityType) (choices : List Text) (id : Text)
    → Contains schema.entity_types (name, it) → kind_choices it.kind ≡ Some choices
    → Contains choices id → length id ≤ longest
