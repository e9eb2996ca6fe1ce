-- The subjects of what is reported of two versions of a schema.
use Rattle.std.specs.Prelude.{◌≡◌, List, Contains, map}
use Rattle.cedar_ast.specs.Words.{PlainName, PlainUid, entity_uid}
use Rattle.cedar_ast.specs.declared.entity.Entity.{Entity}
use Rattle.cedar_ast.specs.declared.extension.Extensions.{Extensions}
use Rattle.cedar_compare.specs.Difference.{AreAnswers, PlainDifference, Subject, action_subject, environment_subject, type_subject}
use Rattle.cedar_schema_semantics.specs.Words.{Environment, IsEnvironmentOf, PlainSchema}

-- the entity types of a schema
abbrev pub type_subjects : PlainSchema → List Subject
type_subjects schema = map (λ it. type_subject it.0) schema.entity_types

-- the actions of some entities
abbrev pub action_subjects : List Entity → List Subject
action_subjects entities = map (λ it. action_subject (entity_uid it)) entities

-- the subjects are the environments of a schema
pub record AreEnvironmentSubjects (schema : PlainSchema) (subjects : List Subject) : Type 0 where
  pub all : (it : Environment) → IsEnvironmentOf schema it
      → Contains subjects (environment_subject it.principal it.action it.resource)
  pub alone : (it : Subject) → Contains subjects it → (principal : PlainName) × (uid : PlainUid)
      × (resource : PlainName) × (it ≡ environment_subject principal uid resource)

-- what is reported of the environments of a schema
abbrev pub AreAllRequests : Extensions → PlainSchema → PlainSchema → List PlainDifference → Type 0
AreAllRequests extensions old new reported = (subjects : List Subject)
    × AreEnvironmentSubjects old subjects × AreAnswers extensions old new subjects reported
