-- What is reported of two versions of a schema as their parts are gone over.
use Rattle.std.proofs.Common.{◌≡◌, Bool, true, List, [], ◌∷◌, ◌++◌, Option, Some, None, inl, inr, refl, ap, subst, sym, ◌∙◌, ⊎_elim, map, Contains}
use Rattle.std.proofs.lemmas.Bool.{false≢true}
use Rattle.std.proofs.lemmas.List.{map-append}
use Rattle.std.proofs.lemmas.List.Elements.{Contains-append_cases, Contains-append_left, Contains-append_right}
use Rattle.std.proofs.lemmas.List.Sorted.{Contains-permutation, IsPermutation-sym}
use Rattle.std.proofs.lemmas.Simd.{map-map}
use Rattle.std.specs.List.Sorted.{IsPermutation, IsStrictlySortedBy}
use Rattle.std.specs.Option.{option_map}
use Rattle.std.specs.declared.cmp.Ordering.TheVariants.{Less}
use Rattle.cedar_ast.proofs.Basics.{Contains-image, Contains-none, no_members}
use Rattle.cedar_ast.proofs.Lists.{Contains-cons, Contains-cons_cases, Contains-preimage}
use Rattle.cedar_ast.proofs.Ordered.{IsStrictlySortedBy-map}
use Rattle.cedar_compare.proofs.AllLemmas.{AreAllSubjects, RequestsSoFar, all_losses, nothing_lost, requests_more}
use Rattle.cedar_compare.proofs.LeftLemmas.{SureSoFar}
use Rattle.cedar_compare.proofs.ReportedLemmas.{AnswersSoFar, answered_append, answered_none, reported_kept, reported_lost, reported_none}
use Rattle.cedar_compare.specs.Words.{ActionEntity, ActionKind, AreActionAnswers, AreActionEntities, AreAllRequests, AreAnswers, AreEnvironmentSubjects, AreLosses, Difference, Entity, EntityType, EntityTypeKind, EntityUID, Extensions, IsAnswer, IsCompleteSchema, IsEntityOfAction, IsLoss, Keeps, PlainDifference, PlainName, PlainSchema, PlainUid, SchemaAction, SchemaEntityType, Subject, ValidatorActionId, ValidatorEntityType, ValidatorSchema, action_entries, action_lost, action_of, action_subject, action_subjects, defined_action, entity_lost, entity_type_of, entity_uid, environment_subject, external_action, external_actions, external_kind, external_types, is_external_kind, is_external_type, name_cmp, plain_action_entity, plain_action_entry, plain_difference, plain_entry, plain_type, request_lost, schema_entries, schema_of, schema_with, subject_cmp, type_name, type_subject, type_subjects, uid_cmp, uid_of, unresolved, unresolved_action, unresolved_type}
use Rattle.cedar_queries.proofs.SelectedLemmas.{Contains-kept}
use Rattle.cedar_schema_semantics.proofs.OccurrenceLemmas.{Contains-filter}

-- the subjects of names are those of the schema's entity types
pub named_subjects : (schema : ValidatorSchema) (names : List EntityType) → names ≡ map (λ entry. entry.0) (schema_entries schema)
    → map (λ name. type_subject (type_name name)) names ≡ type_subjects (schema_of schema)
named_subjects schema names are =
    ap (map (λ name. type_subject (type_name name))) are ∙ of_entries (schema_entries schema)
  where
    of_entries : (entries : List (EntityType × ValidatorEntityType))
        → map (λ name. type_subject (type_name name)) (map (λ (entry : EntityType × ValidatorEntityType). entry.0) entries)
        ≡ map (λ (it : PlainName × SchemaEntityType). type_subject it.0) (map plain_entry entries)
    of_entries [] = refl
    of_entries (entry ∷ rest) = ap (λ subjects. type_subject (type_name entry.0) ∷ subjects) (of_entries rest)

-- subjects of names in order are in order
pub names_sorted : (names : List EntityType) → IsStrictlySortedBy name_cmp (map type_name names)
    → IsStrictlySortedBy subject_cmp (map (λ name. type_subject (type_name name)) names)
names_sorted names sorted = subst (IsStrictlySortedBy subject_cmp) (map-map type_subject type_name names)
    (IsStrictlySortedBy-map name_cmp subject_cmp type_subject (λ a b. refl) (map type_name names) sorted)

-- and so are those of entities whose uids are
pub entities_sorted : (entities : List Entity) → IsStrictlySortedBy uid_cmp (map entity_uid entities)
    → IsStrictlySortedBy subject_cmp (action_subjects entities)
entities_sorted entities sorted = subst (IsStrictlySortedBy subject_cmp) (map-map action_subject entity_uid entities)
    (IsStrictlySortedBy-map uid_cmp subject_cmp action_subject (λ a b. refl) (map entity_uid entities) sorted)

module _ (extensions : Extensions) (old new : PlainSchema) where
  -- at first nothing is reported, and all subjects are left
  pub reported_start : (all left : List Subject) (lost : List Difference) → left ≡ all → lost ≡ [] → IsStrictlySortedBy subject_cmp left
      → AnswersSoFar extensions old new all left (map plain_difference lost)
  reported_start all left lost same nothing sorted =
      subst (λ xs. AnswersSoFar extensions old new all left (map plain_difference xs)) (sym nothing)
      (subst (λ xs. AnswersSoFar extensions old new xs left []) same (reported_none extensions old new left sorted))

  -- the answer for the next subject is that it is kept
  pub reported_nothing : (all left rest : List Subject) (lost : List Difference) (first : Subject) (found : Option Difference)
      → left ≡ first ∷ rest → found ≡ None → IsAnswer extensions old new first (option_map plain_difference found)
      → AnswersSoFar extensions old new all left (map plain_difference lost)
      → AnswersSoFar extensions old new all rest (map plain_difference lost)
  reported_nothing all left rest lost first found steps is answer so_far =
      reported_kept extensions old new all rest (map plain_difference lost) first
      (subst (λ o. IsAnswer extensions old new first (option_map plain_difference o)) is answer)
      (subst (λ xs. AnswersSoFar extensions old new all xs (map plain_difference lost)) steps so_far)

  -- the answer for the next subject is a difference, which is reported
  pub reported_difference : (all left rest : List Subject) (lost more : List Difference) (first : Subject) (found : Option Difference)
      (it : Difference) → left ≡ first ∷ rest → found ≡ Some it → more ≡ lost ++ it ∷ []
      → IsAnswer extensions old new first (option_map plain_difference found)
      → AnswersSoFar extensions old new all left (map plain_difference lost)
      → AnswersSoFar extensions old new all rest (map plain_difference more)
  reported_difference all left rest lost more first found it steps is are answer so_far =
      let loss = subst (λ o. IsAnswer extensions old new first (option_map plain_difference o)) is answer in
      subst (AnswersSoFar extensions old new all rest) (sym (ap (map plain_difference) are ∙ map-append plain_difference lost (it ∷ [])))
      (reported_lost extensions old new all rest (map plain_difference lost) first (plain_difference it) loss.0 loss.1
      (subst (λ xs. AnswersSoFar extensions old new all xs (map plain_difference lost)) steps so_far))

  -- at first the requests of all actions are left
  pub requests_start : (left : List PlainUid) (lost : List Difference) → left ≡ map (λ it. it.0) old.actions → lost ≡ []
      → IsStrictlySortedBy uid_cmp left → RequestsSoFar extensions old new left (map plain_difference lost)
  requests_start left lost same nothing sorted =
      subst (λ xs. RequestsSoFar extensions old new left (map plain_difference xs)) (sym nothing) (record {
        subjects = [];
        answers = answered_none extensions old new;
        all = λ it of. inl (subst (λ xs. Contains xs it.action) (sym same)
            (Contains-image (λ (entry : PlainUid × SchemaAction). entry.0) old.actions (it.action, of.0) of.1));
        alone = λ it among. absurd (Contains-none it among);
        in_order = sorted;
      })

  -- the requests of the next action are reported
  pub requests_next : (left rest : List PlainUid) (lost more longer : List Difference) (uid : PlainUid) → left ≡ uid ∷ rest
      → longer ≡ lost ++ more → AreActionAnswers extensions old new uid (map plain_difference more)
      → RequestsSoFar extensions old new left (map plain_difference lost)
      → RequestsSoFar extensions old new rest (map plain_difference longer)
  requests_next left rest lost more longer uid steps are answers so_far =
      subst (RequestsSoFar extensions old new rest) (sym (ap (map plain_difference) are ∙ map-append plain_difference lost more))
      (requests_more extensions old new uid rest (map plain_difference lost) (map plain_difference more) answers
      (subst (λ xs. RequestsSoFar extensions old new xs (map plain_difference lost)) steps so_far))

  -- where no action is left, all requests are reported
  pub requests_all : (left : List PlainUid) (reported : List PlainDifference) → left ≡ [] → RequestsSoFar extensions old new left reported
      → AreAllRequests extensions old new reported
  requests_all left reported nothing so_far = (
    so_far.subjects,
    record {
      all = λ it of. ⊎_elim
          (λ still. absurd (Contains-none it.action (subst (λ xs. Contains xs it.action) nothing still)))
          (λ there. there)
          (so_far.all it of);
      alone = λ it among. (let one = so_far.alone it among in (one.0, one.1, one.2, one.3));
    },
    so_far.answers,
  )

-- an entity of one of a schema's actions is one of the same actions among other entities
pub entity_of_action : (schema : ValidatorSchema) (types : List (PlainName × SchemaEntityType)) (entities : List ActionEntity) (it : ActionEntity)
    → IsEntityOfAction (schema_with types (action_entries schema) entities) it → IsEntityOfAction (schema_of schema) it
entity_of_action schema types entities it of = record {
  defined = of.defined;
  attributes = of.attributes;
  tags = of.tags;
  ancestors = of.ancestors;
}

-- so each entity of a schema's actions is one of its actions
pub member_of_action : (schema : ValidatorSchema) (types : List (PlainName × SchemaEntityType)) (entities : List Entity) (it : Entity)
    → AreActionEntities (schema_with types (action_entries schema) (map plain_action_entity entities)) → Contains entities it
    → IsEntityOfAction (schema_of schema) (plain_action_entity it)
member_of_action schema types entities it are there =
    entity_of_action schema types (map plain_action_entity entities) (plain_action_entity it)
    (are.entities (plain_action_entity it) (Contains-image plain_action_entity entities it there))

-- the entity types stand below the actions
types_below : (schema : PlainSchema) (entities : List Entity) (one other : Subject) → Contains (type_subjects schema) one
    → Contains (action_subjects entities) other → subject_cmp one other ≡ Less
types_below schema entities one other first second =
    let a = Contains-preimage (λ (it : PlainName × SchemaEntityType). type_subject it.0) schema.entity_types one first in
    let b = Contains-preimage (λ (it : Entity). action_subject (entity_uid it)) entities other second in
    subst (λ s. subject_cmp s other ≡ Less) a.2 (subst (λ s. subject_cmp (type_subject a.0.0) s ≡ Less) b.2 refl)

-- and both below the environments
all_below : (schema : PlainSchema) (entities : List Entity) (subjects : List Subject) → AreEnvironmentSubjects schema subjects
    → (one other : Subject) → Contains (type_subjects schema ++ action_subjects entities) one → Contains subjects other
    → subject_cmp one other ≡ Less
all_below schema entities subjects are one other first second =
    let e = are.alone other second in
    subst (λ s. subject_cmp one s ≡ Less) (sym e.3) (⊎_elim
    (λ ty. (let a = Contains-preimage (λ (it : PlainName × SchemaEntityType). type_subject it.0) schema.entity_types one ty in
    subst (λ s. subject_cmp s (environment_subject e.0 e.1 e.2) ≡ Less) a.2 refl))
    (λ action. (let b = Contains-preimage (λ (it : Entity). action_subject (entity_uid it)) entities one action in
    subst (λ s. subject_cmp s (environment_subject e.0 e.1 e.2) ≡ Less) b.2 refl))
    (Contains-append_cases (type_subjects schema) (action_subjects entities) one first))

module _ (extensions : Extensions) (schema : ValidatorSchema) (new : PlainSchema) (entities : List Entity)
    (types actions requests lost : List Difference)
    (among : AreActionEntities (schema_with (schema_of schema).entity_types (action_entries schema) (map plain_action_entity entities)))
    (of_types : AreAnswers extensions (schema_of schema) new (type_subjects (schema_of schema)) (map plain_difference types))
    (of_actions : AreAnswers extensions (schema_of schema) new (action_subjects entities) (map plain_difference actions))
    (of_requests : AreAllRequests extensions (schema_of schema) new (map plain_difference requests))
    (are : lost ≡ (types ++ actions) ++ requests) where
  -- the subjects of what a schema admits
  subjects : List Subject
  subjects = (type_subjects (schema_of schema) ++ action_subjects entities) ++ of_requests.0

  -- they are all
  all : AreAllSubjects extensions (schema_of schema) new subjects
  unfolding subjects
  all =
      let old = schema_of schema in
      let names = type_subjects old in
      let uids = action_subjects entities in
      record {
        types = λ name it there. Contains-append_left (names ++ uids) of_requests.0 (type_subject name)
            (Contains-append_left names uids (type_subject name)
            (Contains-image (λ (entry : PlainName × SchemaEntityType). type_subject entry.0) old.entity_types (name, it) there));
        actions = λ uid defined.
            (let plain = Contains-preimage (λ (it : ActionEntity). it.uid) (map plain_action_entity entities) uid (among.each uid defined) in
            let entity = Contains-preimage plain_action_entity entities plain.0 plain.1 in
            let named : entity_uid entity.0 ≡ uid = ap (λ (it : ActionEntity). it.uid) entity.2 ∙ plain.2 in
            Contains-append_left (names ++ uids) of_requests.0 (action_subject uid)
            (Contains-append_right names uids (action_subject uid)
            (subst (λ u. Contains uids (action_subject u)) named
            (Contains-image (λ (it : Entity). action_subject (entity_uid it)) entities entity.0 entity.1))));
        environments = λ it of. Contains-append_right (names ++ uids) of_requests.0
            (environment_subject it.principal it.action it.resource) (of_requests.1.all it of);
      }

  -- what is reported answers all of them
  answers : AreAnswers extensions (schema_of schema) new subjects (map plain_difference lost)
  unfolding subjects
  answers =
      let old = schema_of schema in
      let reported = map plain_difference types in
      let more = map plain_difference actions in
      let last = map plain_difference requests in
      let same : map plain_difference lost ≡ (reported ++ more) ++ last = ap (map plain_difference) are
      ∙ (map-append plain_difference (types ++ actions) requests ∙ ap (λ ds. ds ++ last) (map-append plain_difference types actions)) in
      subst (AreAnswers extensions old new ((type_subjects old ++ action_subjects entities) ++ of_requests.0)) (sym same)
      (answered_append extensions old new (type_subjects old ++ action_subjects entities) of_requests.0 (reported ++ more) last
      (all_below old entities of_requests.0 of_requests.1)
      (answered_append extensions old new (type_subjects old) (action_subjects entities) reported more (types_below old entities) of_types of_actions)
      of_requests.2)

  -- so it is all that is lost
  pub reported_losses : AreLosses extensions (schema_of schema) new (map plain_difference lost)
  reported_losses = all_losses extensions (schema_of schema) new subjects (map plain_difference lost) all answers

  -- and where it is nothing, all is kept
  pub reported_kept_all : lost ≡ [] → Keeps extensions (schema_of schema) new
  reported_kept_all nothing =
      nothing_lost extensions (schema_of schema) new subjects (map plain_difference lost) all answers (ap (map plain_difference) nothing)

-- what is kept isn't lost
kept_not_lost : (extensions : Extensions) (old new : PlainSchema) → Keeps extensions old new → (it : PlainDifference)
    → ¬ IsLoss extensions old new it
kept_not_lost extensions old new keeps (entity_lost it cause) ((real, of, none), true_one) = none (keeps.entities it real (inl of))
kept_not_lost extensions old new keeps (action_lost it cause) ((real, of, none), true_one) = none (keeps.entities it real (inr of))
kept_not_lost extensions old new keeps (request_lost it cause) ((real, of, none), true_one) = none (keeps.requests it real of)

-- so where all is kept, nothing is reported
pub no_losses : (extensions : Extensions) (old new : PlainSchema) → Keeps extensions old new → (reported : List PlainDifference)
    → AreLosses extensions old new reported → reported ≡ []
no_losses extensions old new keeps [] losses = refl
no_losses extensions old new keeps (it ∷ rest) losses =
    absurd (kept_not_lost extensions old new keeps it (losses.true_ones it (Contains-cons it rest it (inl refl))))

-- the same of differences as a call gives them
pub nothing_reported : (extensions : Extensions) (old new : PlainSchema) → Keeps extensions old new → (lost : List Difference)
    → AreLosses extensions old new (map plain_difference lost) → lost ≡ []
nothing_reported extensions old new keeps [] losses = refl
nothing_reported extensions old new keeps (it ∷ rest) losses =
    let none = no_losses extensions old new keeps (map plain_difference (it ∷ rest)) losses in absurd cc

module _ {A : Type 0} (P : A → Type 0) (all : List A) where
  -- at first all are left, in some order
  pub leaves_start : (left : List A) → IsPermutation all left → SureSoFar P all left
  leaves_start left moved = record {
    sure = λ x there. inr (Contains-permutation all left x moved there);
    among = λ x there. Contains-permutation left all x (IsPermutation-sym all left moved) there;
  }

  -- the next one is a member
  pub leaf_here : (before rest : List A) (first : A) → IsPermutation before (first ∷ rest) → SureSoFar P all before → Contains all first
  leaf_here before rest first moved so_far = so_far.among first
      (Contains-permutation (first ∷ rest) before first (IsPermutation-sym before (first ∷ rest) moved) (Contains-cons first rest first (inl refl)))

  -- it is made sure of one more
  pub leaf_next : (before rest : List A) (first : A) → IsPermutation before (first ∷ rest) → P first → SureSoFar P all before
      → SureSoFar P all rest
  leaf_next before rest first moved here so_far = record {
    sure = λ x among. ⊎_elim
        (λ sound. inl sound)
        (λ still. ⊎_elim (λ same. inl (subst P same here)) (λ later. inr later)
        (Contains-cons_cases first rest x (Contains-permutation before (first ∷ rest) x moved still)))
        (so_far.sure x among);
    among = λ x there. so_far.among x (Contains-permutation (first ∷ rest) before x (IsPermutation-sym before (first ∷ rest) moved)
        (Contains-cons first rest x (inr there)));
  }

-- a kind of entity type that counts as external is so
external_type_is : (kind : EntityTypeKind) → is_external_type kind ≡ true → kind ≡ external_kind
external_type_is external_kind is = refl
external_type_is _ is = absurd (false≢true is)

-- a kind of action that counts as external is so
external_action_is : (kind : ActionKind) → is_external_kind kind ≡ true → kind ≡ external_action
external_action_is (defined_action principals resources context) is = absurd (false≢true is)
external_action_is external_action is = refl

-- whether an entity type is external
is_type_elsewhere : ValidatorEntityType → Bool
is_type_elsewhere it = is_external_type (entity_type_of it).kind

-- whether an action is external
is_action_elsewhere : ValidatorActionId → Bool
is_action_elsewhere it = is_external_kind (action_of it).kind

-- a schema with nothing unresolved is complete
pub complete_schema : (schema : ValidatorSchema) → unresolved (schema_entries schema) (action_entries schema) ≡ []
    → IsCompleteSchema (schema_of schema)
unfolding is_type_elsewhere is_action_elsewhere
complete_schema schema none =
    let types = schema_entries schema in
    let actions = action_entries schema in
    let first = map unresolved_type (external_types types) in
    let second = map unresolved_action (external_actions actions) in
    record {
      entity_types = λ name it there external.
          (let entry = Contains-preimage plain_entry types (name, it) there in
          let kind : (entity_type_of entry.0.1).kind ≡ external_kind = ap (λ (e : PlainName × SchemaEntityType). e.1.kind) entry.2 ∙ external in
          let value = Contains-image (λ (e : EntityType × ValidatorEntityType). e.1) types entry.0 entry.1 in
          let kept = Contains-kept is_type_elsewhere (map (λ (e : EntityType × ValidatorEntityType). e.1) types) entry.0.1 value (ap is_external_type kind) in
          Contains-none (unresolved_type entry.0.1) (subst (λ xs. Contains xs (unresolved_type entry.0.1)) none
          (Contains-append_left first second (unresolved_type entry.0.1) (Contains-image unresolved_type (external_types types) entry.0.1 kept))));
      actions = λ uid it there external.
          (let entry = Contains-preimage plain_action_entry actions (uid, it) there in
          let kind : (action_of entry.0.1).kind ≡ external_action = ap (λ (e : PlainUid × SchemaAction). e.1.kind) entry.2 ∙ external in
          let value = Contains-image (λ (e : EntityUID × ValidatorActionId). e.1) actions entry.0 entry.1 in
          let kept = Contains-kept is_action_elsewhere (map (λ (e : EntityUID × ValidatorActionId). e.1) actions) entry.0.1 value (ap is_external_kind kind) in
          Contains-none (unresolved_action entry.0.1) (subst (λ xs. Contains xs (unresolved_action entry.0.1)) none
          (Contains-append_right first second (unresolved_action entry.0.1) (Contains-image unresolved_action (external_actions actions) entry.0.1 kept))));
    }

-- and a complete schema has nothing unresolved
pub nothing_unresolved : (schema : ValidatorSchema) → IsCompleteSchema (schema_of schema)
    → unresolved (schema_entries schema) (action_entries schema) ≡ []
unfolding is_type_elsewhere is_action_elsewhere
nothing_unresolved schema complete =
    let types = schema_entries schema in
    let actions = action_entries schema in
    no_members (unresolved types actions) (λ x among. ⊎_elim
    (λ first.
    (let it = Contains-preimage unresolved_type (external_types types) x first in
    let kept = Contains-filter is_type_elsewhere (map (λ (e : EntityType × ValidatorEntityType). e.1) types) it.0 it.1 in
    let entry = Contains-preimage (λ (e : EntityType × ValidatorEntityType). e.1) types it.0 kept.0 in
    complete.entity_types (type_name entry.0.0) (plain_type entry.0.1) (Contains-image plain_entry types entry.0 entry.1)
    (external_type_is (entity_type_of entry.0.1).kind (ap is_type_elsewhere entry.2 ∙ kept.1))))
    (λ second.
    (let it = Contains-preimage unresolved_action (external_actions actions) x second in
    let kept = Contains-filter is_action_elsewhere (map (λ (e : EntityUID × ValidatorActionId). e.1) actions) it.0 it.1 in
    let entry = Contains-preimage (λ (e : EntityUID × ValidatorActionId). e.1) actions it.0 kept.0 in
    complete.actions (uid_of entry.0.0) (action_of entry.0.1) (Contains-image plain_action_entry actions entry.0 entry.1)
    (external_action_is (action_of entry.0.1).kind (ap is_action_elsewhere entry.2 ∙ kept.1))))
    (Contains-append_cases (map unresolved_type (external_types types)) (map unresolved_action (external_actions actions)) x among))
