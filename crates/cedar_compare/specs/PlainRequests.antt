-- What is found on the way to a request that is lost, as plain data.
use Rattle.std.specs.Prelude.{◌≡◌, List, Option, Some, None, Contains}
use Rattle.cedar_ast.specs.Words.{PlainName, PlainUid, Text}
use Rattle.cedar_ast.specs.declared.extension.Extensions.{Extensions}
use Rattle.cedar_compare.specs.Choices.{kind_choices}
use Rattle.cedar_compare.specs.Difference.{AreAnswers, LacksChoice, PlainDifference, Subject, environment_subject}
use Rattle.cedar_counterexample.specs.Between.{IsOutsideBetween, PlainBetween}
use Rattle.cedar_entities.specs.Exists.{Exists, MayHaveId}
use Rattle.cedar_entities.specs.Inclusion.{IncludedBetween}
use Rattle.cedar_entities.specs.Naming.{NamesWhatExists}
use Rattle.cedar_entities.specs.Requests.{IsRealRequest, PlainRequest}
use Rattle.cedar_schema_semantics.specs.Words.{Environment, IsContextOf, IsEnvironmentOf, PlainSchema, SchemaAction, SchemaEntityType}
use Rattle.cedar_type_rules.specs.Words.{Has, Ty}

-- these are the choices of the schema's entity type of the name, if it is an enumerated one
abbrev pub AreChoicesAt : PlainSchema → PlainName → Option (List Text) → Type 0
AreChoicesAt schema name None = (it : SchemaEntityType) → Contains schema.entity_types (name, it)
    → kind_choices it.kind ≡ None
AreChoicesAt schema name (Some choices) = (it : SchemaEntityType)
    × Contains schema.entity_types (name, it) × (kind_choices it.kind ≡ Some choices)

-- a uid is of a type, and the schema may have it as principal or resource
abbrev pub IsUidOfType : PlainSchema → PlainName → PlainUid → Type 0
IsUidOfType schema name uid = (uid.ty ≡ name) × MayHaveId schema uid

-- what is found of the uids of a type: one that the old schema may have and the new may not, or
-- that there is none
abbrev pub IsUidOutside : PlainSchema → PlainSchema → PlainName → Option PlainUid → Type 0
IsUidOutside old new name None =
    (uid : PlainUid) → IsUidOfType old name uid → MayHaveId new uid
IsUidOutside old new name (Some uid) = IsUidOfType old name uid × LacksChoice new uid

-- what is found of the types of a context: a value that only the first has between the two schemas,
-- and why, or that there is none
abbrev pub IsContextOutside : Extensions → PlainSchema → PlainSchema → Ty → Option Ty
    → Option PlainBetween → Type 0
IsContextOutside extensions old new ty other None =
    (upper : Ty) → other ≡ Some upper → IncludedBetween extensions old ty new upper
IsContextOutside extensions old new ty other (Some found) = (upper : Ty) × (other ≡ Some upper)
    × IsOutsideBetween extensions (Exists old) (Exists new) ty upper found

-- the type is that of the context of an action of the schema
abbrev pub IsContextIn : PlainSchema → Ty → Type 0
IsContextIn schema ty = (uid : PlainUid) × (it : SchemaAction)
    × Contains schema.actions (uid, it) × IsContextOf it.kind ty

-- a request is of these uids, and its context is a real value of the type that names what exists
pub record IsSampleRequest (extensions : Extensions) (schema : PlainSchema)
    (principal action resource : PlainUid) (ty : Ty) (it : PlainRequest) : Type 0 where
  pub principal_is : it.principal ≡ principal
  pub action_is : it.action ≡ action
  pub resource_is : it.resource ≡ resource
  pub real : IsRealRequest it
  pub has : Has extensions it.context ty
  pub exists : NamesWhatExists schema it.context

-- the schema has an environment of a principal, an action and a resource
abbrev pub HasEnvironment : PlainSchema → PlainName → PlainUid → PlainName → Type 0
HasEnvironment schema principal uid resource = (ty : Ty) × IsEnvironmentOf schema
    (record { principal = principal; action = uid; resource = resource; context = ty })

-- the schema has none
abbrev pub IsEnvironmentLacking : PlainSchema → PlainName → PlainUid → PlainName → Type 0
IsEnvironmentLacking schema principal uid resource = ¬ HasEnvironment schema principal uid resource

-- the subjects are the environments of a schema's action
pub record AreSubjectsOf (schema : PlainSchema) (uid : PlainUid) (subjects : List Subject)
    : Type 0 where
  pub all : (it : Environment) → IsEnvironmentOf schema it → it.action ≡ uid
      → Contains subjects (environment_subject it.principal uid it.resource)
  pub alone : (it : Subject) → Contains subjects it → (principal resource : PlainName)
      × (it ≡ environment_subject principal uid resource)

-- what is reported of the environments of an action
abbrev pub AreActionAnswers : Extensions → PlainSchema → PlainSchema → PlainUid
    → List PlainDifference → Type 0
AreActionAnswers extensions old new uid reported = (subjects : List Subject)
    × AreSubjectsOf old uid subjects × AreAnswers extensions old new subjects reported
