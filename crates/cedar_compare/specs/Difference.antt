-- Differences between two versions of a schema.
use Rattle.std.specs.List.Sorted.{IsStrictlySortedBy}
use Rattle.std.specs.Ordering.{ordering_then}
use Rattle.std.specs.Prelude.{◌≡◌, ◌↔◌, ◌⊎◌, List, [], Option, Some, None, Contains, map}
use Rattle.std.specs.declared.cmp.Ordering.{Ordering}
use Rattle.std.specs.declared.cmp.Ordering.TheVariants.{Less, Greater}
use Rattle.cedar_ast.specs.Words.{PlainName, PlainUid, name_cmp, uid_cmp}
use Rattle.cedar_ast.specs.declared.extension.Extensions.{Extensions}
use Rattle.cedar_compare.specs.Choices.{MayHave, kind_choices}
use Rattle.cedar_compare.specs.Keeps.{IsLostAction, IsLostEntity, IsLostRequest, KeepsAction, KeepsEntityType, KeepsRequest, LosesAction, LosesEntityType, LosesRequest}
use Rattle.cedar_compare.specs.declared.difference.Part.{Part}
use Rattle.cedar_compare.specs.declared.difference.Part.TheVariants.{Attributes, Context, Tags}
use Rattle.cedar_counterexample.specs.Between.{IsApartAt}
use Rattle.cedar_counterexample.specs.Steps.{PlainStep}
use Rattle.cedar_entities.specs.Exists.{Exists}
use Rattle.cedar_entities.specs.Requests.{IsOfTypes, PlainRequest}
use Rattle.cedar_schema_semantics.specs.Words.{ActionEntity, DefinesAction, EntityTypeKind, Environment, IsEnvironmentOf, ListsDescendant, ListsDescendantAction, PlainSchema, SchemaEntityType, enumerated_kind, external_kind, standard_kind}
use Rattle.cedar_type_rules.specs.Ty.{Ty, record_of}

-- what a difference is of: an entity type, an action, or an environment by its principal, its
-- action and its resource
pub data Subject : Type 0 where
  type_subject : PlainName → Subject
  action_subject : PlainUid → Subject
  environment_subject : PlainName → PlainUid → PlainName → Subject

-- the order of subjects: entity types, then actions, each by name; then environments by action, by
-- principal and by resource
abbrev pub subject_cmp : Subject → Subject → Ordering
subject_cmp (type_subject a) (type_subject b) = name_cmp a b
subject_cmp (type_subject a) _ = Less
subject_cmp (action_subject a) (type_subject b) = Greater
subject_cmp (action_subject a) (action_subject b) = uid_cmp a b
subject_cmp (action_subject a) (environment_subject p b r) = Less
subject_cmp (environment_subject p a r) (environment_subject q b s) =
    ordering_then (uid_cmp a b) (ordering_then (name_cmp p q) (name_cmp r s))
subject_cmp (environment_subject p a r) _ = Greater

-- why something is lost, as plain data: of values of a part, at the end of the steps the types
-- part, or they lead to where values may name a uid that is lost
pub data PlainCause : Type 0 where
  removed : PlainCause
  choice_removed : PlainUid → PlainCause
  type_above : PlainName → PlainCause
  action_above : PlainUid → PlainCause
  values_apart : Part → List PlainStep → Option PlainUid → PlainCause

-- a difference as plain data: what is lost of an entity type, of an action or of an environment,
-- and why
pub data PlainDifference : Type 0 where
  entity_lost : ActionEntity → PlainCause → PlainDifference
  action_lost : ActionEntity → PlainCause → PlainDifference
  request_lost : PlainRequest → PlainCause → PlainDifference

-- what a difference is of
abbrev pub subject_of : PlainDifference → Subject
subject_of (entity_lost it cause) = type_subject it.uid.ty
subject_of (action_lost it cause) = action_subject it.uid
subject_of (request_lost it cause) =
    environment_subject it.principal.ty it.action it.resource.ty

-- two kinds of entity types are of one sort
abbrev pub IsAlike : EntityTypeKind → EntityTypeKind → Type 0
IsAlike (standard_kind fields openness tags) (standard_kind others other_openness other_tags) =
    Unit {0}
IsAlike (enumerated_kind choices) (enumerated_kind others) = Unit {0}
IsAlike external_kind external_kind = Unit {0}
IsAlike _ _ = ⊥

-- the schema's entity type of the uid's type is enumerated, without the uid's id
abbrev pub LacksChoice : PlainSchema → PlainUid → Type 0
LacksChoice schema uid = (it : SchemaEntityType) × Contains schema.entity_types (uid.ty, it)
    × ¬ MayHave (kind_choices it.kind) uid.eid

-- values of two types part between two schemas: at the end of the steps the types do, or they lead
-- to where the values may name a uid that exists in the old schema and not in the new
abbrev pub AreValuesApart : Extensions → PlainSchema → PlainSchema → List PlainStep
    → Option PlainUid → Ty → Ty → Type 0
AreValuesApart extensions old new = IsApartAt extensions (Exists old) (Exists new)

-- tags of two types part: there are no others, or their types part
abbrev pub AreTagsApart : Extensions → PlainSchema → PlainSchema → List PlainStep
    → Option PlainUid → Option Ty → Option Ty → Type 0
AreTagsApart extensions old new steps lost (Some ty) None = (steps ≡ []) × (lost ≡ None)
AreTagsApart extensions old new steps lost (Some ty) (Some other) =
    AreValuesApart extensions old new steps lost ty other
AreTagsApart extensions old new steps lost None other = ⊥

-- a cause is true of two kinds of an entity type: their attributes or their tags part
abbrev pub IsCauseOfKinds : Extensions → PlainSchema → PlainSchema → EntityTypeKind
    → EntityTypeKind → PlainCause → Type 0
IsCauseOfKinds extensions old new (standard_kind fields openness tags)
    (standard_kind others other_openness other_tags) (values_apart Attributes steps lost) =
    AreValuesApart extensions old new steps lost (record_of fields openness)
    (record_of others other_openness)
IsCauseOfKinds extensions old new (standard_kind fields openness tags)
    (standard_kind others other_openness other_tags) (values_apart Tags steps lost) =
    AreTagsApart extensions old new steps lost tags other_tags
IsCauseOfKinds extensions old new kind other cause = ⊥

-- a cause is true of an entity of an entity type that is lost
abbrev pub IsTypeCause : Extensions → PlainSchema → PlainSchema → ActionEntity → PlainCause → Type 0
-- the new schema has no such entity type, or has it of another sort
IsTypeCause extensions old new it removed =
    (ty other : SchemaEntityType) → Contains old.entity_types (it.uid.ty, ty)
    → Contains new.entity_types (it.uid.ty, other) → ¬ IsAlike ty.kind other.kind
-- an enumerated type is without the choice that the entity, or one above it, is
IsTypeCause extensions old new it (choice_removed uid) =
    ((uid ≡ it.uid) ⊎ Contains it.ancestors uid) × LacksChoice new uid
-- an entity type is no longer above
IsTypeCause extensions old new it (type_above upper) =
    ListsDescendant old it.uid.ty upper × ¬ ListsDescendant new it.uid.ty upper
-- attributes or tags part
IsTypeCause extensions old new it cause =
    (ty other : SchemaEntityType) × Contains old.entity_types (it.uid.ty, ty)
    × Contains new.entity_types (it.uid.ty, other)
    × IsCauseOfKinds extensions old new ty.kind other.kind cause

-- a cause is true of an action whose entity is lost: the new schema doesn't define it, or one of
-- the two schemas alone lists it below the other action
abbrev pub IsActionCause : PlainSchema → PlainSchema → PlainUid → PlainCause → Type 0
IsActionCause old new uid removed = ¬ DefinesAction new uid
IsActionCause old new uid (action_above upper) =
    (ListsDescendantAction old uid upper × ¬ ListsDescendantAction new uid upper)
    ⊎ (ListsDescendantAction new uid upper × ¬ ListsDescendantAction old uid upper)
IsActionCause old new uid cause = ⊥

-- an environment is that of the types of a request, and of its action
abbrev pub IsEnvironmentFor : PlainSchema → PlainRequest → Environment → Type 0
IsEnvironmentFor schema it environment = IsEnvironmentOf schema environment
    × IsOfTypes environment.principal environment.action environment.resource it

-- a cause is true of a request that is lost
abbrev pub IsRequestCause : Extensions → PlainSchema → PlainSchema → PlainRequest → PlainCause
    → Type 0
-- the new schema has no such environment
IsRequestCause extensions old new it removed =
    (environment : Environment) → ¬ IsEnvironmentFor new it environment
-- an enumerated type is without the choice that the principal or the resource is
IsRequestCause extensions old new it (choice_removed uid) =
    ((uid ≡ it.principal) ⊎ (uid ≡ it.resource)) × LacksChoice new uid
-- contexts part
IsRequestCause extensions old new it (values_apart Context steps lost) =
    (one other : Environment) × IsEnvironmentFor old it one × IsEnvironmentFor new it other
    × AreValuesApart extensions old new steps lost one.context other.context
IsRequestCause extensions old new it cause = ⊥

-- a difference is true of two schemas: what it carries is lost, and its cause is true
abbrev pub IsLoss : Extensions → PlainSchema → PlainSchema → PlainDifference → Type 0
IsLoss extensions old new (entity_lost it cause) =
    IsLostEntity extensions old new it × IsTypeCause extensions old new it cause
IsLoss extensions old new (action_lost it cause) =
    IsLostAction extensions old new it × IsActionCause old new it.uid cause
IsLoss extensions old new (request_lost it cause) =
    IsLostRequest extensions old new it × IsRequestCause extensions old new it cause

-- the new schema keeps all that the old one admits of a subject
abbrev pub KeepsOf : Extensions → PlainSchema → PlainSchema → Subject → Type 0
KeepsOf extensions old new (type_subject name) = KeepsEntityType extensions old new name
KeepsOf extensions old new (action_subject uid) = KeepsAction extensions old new uid
KeepsOf extensions old new (environment_subject principal action resource) =
    KeepsRequest extensions old new principal action resource

-- the new schema lacks something that the old one admits of a subject
abbrev pub LosesOf : Extensions → PlainSchema → PlainSchema → Subject → Type 0
LosesOf extensions old new (type_subject name) = LosesEntityType extensions old new name
LosesOf extensions old new (action_subject uid) = LosesAction extensions old new uid
LosesOf extensions old new (environment_subject principal action resource) =
    LosesRequest extensions old new principal action resource

-- what is found of a subject: that all is kept, or a true difference of it
abbrev pub IsAnswer : Extensions → PlainSchema → PlainSchema → Subject → Option PlainDifference
    → Type 0
IsAnswer extensions old new subject None = KeepsOf extensions old new subject
IsAnswer extensions old new subject (Some difference) =
    (subject_of difference ≡ subject) × IsLoss extensions old new difference

-- what is reported of some subjects: each is kept or reported, what is reported is a true
-- difference of one of them, and all is in the order of the subjects
pub record AreAnswers (extensions : Extensions) (old new : PlainSchema) (subjects : List Subject)
    (reported : List PlainDifference) : Type 0 where
  pub each : (subject : Subject) → Contains subjects subject
      → KeepsOf extensions old new subject ⊎ Contains (map subject_of reported) subject
  pub true_ones : (it : PlainDifference) → Contains reported it → IsLoss extensions old new it
  pub among : (subject : Subject) → Contains (map subject_of reported) subject
      → Contains subjects subject
  pub in_order : IsStrictlySortedBy subject_cmp (map subject_of reported)

-- the differences are just those by which the new schema loses something of the old one: each is
-- true, each subject that loses something is reported, once, and all are in order
pub record AreLosses (extensions : Extensions) (old new : PlainSchema)
    (reported : List PlainDifference) : Type 0 where
  pub each : (subject : Subject) → Contains (map subject_of reported) subject
      ↔ LosesOf extensions old new subject
  pub true_ones : (it : PlainDifference) → Contains reported it → IsLoss extensions old new it
  pub in_order : IsStrictlySortedBy subject_cmp (map subject_of reported)
