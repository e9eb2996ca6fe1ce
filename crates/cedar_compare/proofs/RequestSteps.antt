-- What is reported of the environments of an action, one after another.
use Rattle.std.proofs.Common.{◌≡◌, ◌⊎◌, ℕ, ◌<◌, ◌+◌, List, [], ◌∷◌, ◌++◌, Option, Some, None, get_or, length, take, inl, inr, refl, ap, subst, sym, ◌∙◌, ⊎_elim, map, Contains}
use Rattle.std.proofs.lemmas.Grind.{flat_map-append}
use Rattle.std.proofs.lemmas.List.{append-nil, map-append, take_more}
use Rattle.std.proofs.lemmas.List.Elements.{Contains-append_right}
use Rattle.std.specs.List.{flat_map}
use Rattle.std.specs.List.Sorted.{IsStrictlySortedBy}
use Rattle.std.specs.Option.{option_map}
use Rattle.std.specs.declared.cmp.Ordering.TheVariants.{Less}
use Rattle.cedar_ast.proofs.Basics.{AllByRecursion-at, Contains-image, Contains-none}
use Rattle.cedar_ast.proofs.Lists.{Contains-cons, Contains-cons_cases, Contains-preimage}
use Rattle.cedar_compare.proofs.AllLemmas.{principals_below}
use Rattle.cedar_compare.proofs.ReportedLemmas.{AnswersSoFar, answered_append, answered_none, reported_lost}
use Rattle.cedar_compare.proofs.RequestLemmas.{kept_requests, lacking, lost_request}
use Rattle.cedar_compare.specs.Words.{ActionKind, AreActionAnswers, AreAnswers, AreValuesApart, Environment, Extensions, Has, HasEnvironment, IsActionAt, IsAnswer, IsAppliedBy, IsContextIn, IsContextOf, IsContextOutside, IsEnvironmentFor, IsEnvironmentLacking, IsEnvironmentOf, IsKeyed, IsLostRequest, IsOfTypes, IsRequestOf, IsSampleRequest, IsUidOfType, IsUidOutside, KeepsOf, LacksChoice, MayHaveId, NamesWhatExists, PlainBetween, PlainDifference, PlainName, PlainRequest, PlainSchema, PlainStep, PlainUid, SameItems, SchemaAction, Subject, Ty, choice_removed, context_at, defined_action, environment_subject, external_action, kind_context, kind_principals, kind_resources, name_cmp, removed, request_lost, subject_cmp, subjects_with, values_apart}
use Rattle.cedar_compare.specs.declared.difference.Part.TheVariants.{Context}
use Rattle.cedar_schema_semantics.proofs.OccurrenceLemmas.{Contains-flat_map, Contains-given}

-- the context of an environment is that of its action
kind_of_environment : (kind : ActionKind) (environment : Environment) → IsRequestOf kind environment
    → IsContextOf kind environment.context × (kind_context kind ≡ Some environment.context)
    × Contains (kind_principals kind) environment.principal × Contains (kind_resources kind) environment.resource
kind_of_environment (defined_action principals resources context) environment of =
    (of.2, ap (λ (ty : Ty). Some ty) of.2, of.0, of.1)
kind_of_environment external_action environment of = absurd of

-- a principal, a resource and the context of a kind are an environment of it
environment_of_kind : (kind : ActionKind) (environment : Environment) → Contains (kind_principals kind) environment.principal
    → Contains (kind_resources kind) environment.resource → kind_context kind ≡ Some environment.context → IsRequestOf kind environment
environment_of_kind (defined_action principals resources context) environment first second is =
    (first, second, cc)
environment_of_kind external_action environment first second is = absurd (Contains-none environment.principal first)

-- the context of an environment of the schema is that of an action of it
pub environment_context : (schema : PlainSchema) (environment : Environment) → IsEnvironmentOf schema environment
    → IsContextIn schema environment.context
environment_context schema environment (action, there, of) =
    (environment.action, action, there, (kind_of_environment action.kind environment of).0)

module _ (schema : PlainSchema) (uid : PlainUid) where
  -- of what stands at the uid, the environments of the uid have the context
  pub context_there : IsKeyed schema → (o : Option SchemaAction) → IsActionAt schema uid o → (principal resource : PlainName) (ty : Ty)
      → IsEnvironmentOf schema (record { principal = principal; action = uid; resource = resource; context = ty })
      → context_at o ≡ Some ty
  context_there keyed None at principal resource ty (action, there, of) = absurd (at action there)
  context_there keyed (Some it) at principal resource ty (action, there, of) =
      ap (λ (a : SchemaAction). kind_context a.kind) (keyed.actions uid it action at there)
      ∙ (kind_of_environment action.kind (record { principal = principal; action = uid; resource = resource; context = ty }) of).1

  -- where no action at the uid is for a principal and a resource, the schema lacks the environment
  pub lacking_there : IsKeyed schema → (o : Option SchemaAction) → IsActionAt schema uid o → (principal resource : PlainName)
      → ¬ IsAppliedBy o principal resource → IsEnvironmentLacking schema principal uid resource
  lacking_there keyed None at principal resource none (ty, (action, there, of)) = at action there
  lacking_there keyed (Some it) at principal resource none (ty, (action, there, of)) =
      let is = kind_of_environment action.kind (record { principal = principal; action = uid; resource = resource; context = ty }) of in
      none (subst (λ (a : SchemaAction). Contains (kind_principals a.kind) principal × Contains (kind_resources a.kind) resource)
      (sym (keyed.actions uid it action at there)) (is.2, is.3))

  -- where one is, the schema has it
  pub still_there : (o : Option SchemaAction) → IsActionAt schema uid o → (principal resource : PlainName)
      → IsAppliedBy o principal resource → HasEnvironment schema principal uid resource
  still_there None at principal resource applied = absurd applied
  still_there (Some it) at principal resource applied = found it.kind refl
    where
      -- so it is of a kind with a context
      found : (kind : ActionKind) → it.kind ≡ kind → HasEnvironment schema principal uid resource
      found (defined_action principals resources context) is = (
        context,
        (
          it,
          at,
          environment_of_kind it.kind (record { principal = principal; action = uid; resource = resource; context = context }) applied.0
              applied.1 (ap kind_context is),
        ),
      )
      found external_action is = absurd (Contains-none principal (subst (λ k. Contains (kind_principals k) principal) is applied.0))

module _ (extensions : Extensions) (old new : PlainSchema) (principal : PlainName) (uid : PlainUid) (resource : PlainName) (ty : Ty)
    (asked : IsEnvironmentOf old (record { principal = principal; action = uid; resource = resource; context = ty })) where
  module _ (first second : PlainUid) (it : PlainRequest) (of_first : IsUidOfType old principal first)
      (of_second : IsUidOfType old resource second) (sample : IsSampleRequest extensions old first uid second ty it) where
    -- a sample is of the types of its uids
    sample_types : IsOfTypes principal uid resource it
    sample_types = record {
      principal_type = ap (λ (u : PlainUid). u.ty) sample.principal_is ∙ of_first.0;
      of_action = sample.action_is;
      resource_type = ap (λ (u : PlainUid). u.ty) sample.resource_is ∙ of_second.0;
    }

    -- so it is reported of its environment
    sample_subject : environment_subject it.principal.ty it.action it.resource.ty ≡ environment_subject principal uid resource
    sample_subject =
        ap (λ p. environment_subject p it.action it.resource.ty) sample_types.principal_type
        ∙ (ap (λ a. environment_subject principal a it.resource.ty) sample_types.of_action
        ∙ ap (λ r. environment_subject principal uid r) sample_types.resource_type)

    -- and it is lost where the new schema refuses it in each such environment
    sample_lost : ((other : Ty) → IsEnvironmentOf new (record { principal = principal; action = uid; resource = resource; context = other })
        → Has extensions it.context other → NamesWhatExists new it.context → MayHaveId new it.principal → MayHaveId new it.resource → ⊥)
        → IsLostRequest extensions old new it
    sample_lost refused =
        lost_request extensions old new principal uid resource ty asked it sample_types sample.real sample.has sample.exists
        (subst (MayHaveId old) (sym sample.principal_is) of_first.1) (subst (MayHaveId old) (sym sample.resource_is) of_second.1) refused

    -- an environment for it is one of its types
    environment_there : (schema : PlainSchema) (environment : Environment) → IsEnvironmentFor schema it environment
        → HasEnvironment schema principal uid resource
    environment_there schema environment (of, types) =
        let P : PlainName → PlainUid → PlainName → Type 0 = λ p a r. HasEnvironment schema p a r in
        subst (λ p. P p uid resource) (sym types.principal_type ∙ sample_types.principal_type)
        (subst (λ a. P environment.principal a resource) (sym types.of_action ∙ sample_types.of_action)
        (subst (λ r. P environment.principal environment.action r) (sym types.resource_type ∙ sample_types.resource_type)
        (environment.context, of)))

    -- the difference of an environment that the new schema lacks
    pub removed_answer : IsEnvironmentLacking new principal uid resource
        → IsAnswer extensions old new (environment_subject principal uid resource) (Some (request_lost it removed))
    removed_answer lacks = (
      sample_subject,
      (
        sample_lost (λ other of has names may may'. lacks (other, of)),
        λ environment for_it. lacks (environment_there new environment for_it),
      ),
    )

    -- that of one whose principal or resource may have an id which the new schema's may not
    pub choice_answer : (lost : PlainUid) → (lost ≡ first) ⊎ (lost ≡ second) → LacksChoice new lost
        → IsAnswer extensions old new (environment_subject principal uid resource) (Some (request_lost it (choice_removed lost)))
    choice_answer lost is lacks =
        let is_one : (lost ≡ it.principal) ⊎ (lost ≡ it.resource) =
        ⊎_elim (λ one. inl (one ∙ sym sample.principal_is)) (λ other. inr (other ∙ sym sample.resource_is)) is in (
          sample_subject,
          (
            sample_lost (λ other of has names may may'. lacking new lost lacks (⊎_elim
                (λ one. subst (MayHaveId new) (sym one) may)
                (λ one. subst (MayHaveId new) (sym one) may')
                is_one)),
            (is_one, lacks),
          ),
        )

    -- that of one whose context the new schema's can't be
    pub context_answer : IsKeyed new → (o : Option SchemaAction) → IsActionAt new uid o → (found : PlainBetween) (steps : List PlainStep)
        (lost : Option PlainUid) → IsContextOutside extensions old new ty (context_at o) (Some found) → it.context ≡ found.value
        → steps ≡ found.steps → lost ≡ found.lost → HasEnvironment new principal uid resource
        → IsAnswer extensions old new (environment_subject principal uid resource) (Some (request_lost it (values_apart Context steps lost)))
    context_answer keyed o at found steps lost (upper, is, outside) same same_steps same_lost (other, still) =
        let upper_is : (one : Ty)
        → IsEnvironmentOf new (record { principal = principal; action = uid; resource = resource; context = one }) → upper ≡ one = λ one of.
        some_same upper one (sym is ∙ context_there new uid keyed o at principal resource one of) in (
          sample_subject,
          (
            sample_lost (λ one of has' names may may'. outside.lacks (
              subst (λ v. Has extensions v upper) same (subst (Has extensions it.context) (sym (upper_is one of)) has'),
              subst (NamesWhatExists new) same names,
            )),
            (
              record { principal = principal; action = uid; resource = resource; context = ty },
              record { principal = principal; action = uid; resource = resource; context = other },
              (asked, sample_types),
              (still, sample_types),
              subst (λ s. AreValuesApart extensions old new s lost ty other) (sym same_steps)
                  (subst (λ l. AreValuesApart extensions old new found.steps l ty other) (sym same_lost)
                  (subst (AreValuesApart extensions old new found.steps found.lost ty) (upper_is other still) outside.apart)),
            ),
          ),
        )
      where
        -- what two equal options hold is equal
        some_same : (one other : Ty) → Some one ≡ Some other → one ≡ other
        some_same one other same = cc

  -- the requests of an environment are kept where nothing is outside
  pub kept_answer : IsKeyed old → IsKeyed new → (o : Option SchemaAction) → IsActionAt new uid o
      → IsContextOutside extensions old new ty (context_at o) None → HasEnvironment new principal uid resource
      → IsUidOutside old new principal None → IsUidOutside old new resource None
      → IsAnswer extensions old new (environment_subject principal uid resource) None
  kept_answer keyed keyed' o at within (other, still) first second =
      kept_requests extensions old new keyed principal uid resource ty other asked still
      (within other (context_there new uid keyed' o at principal resource other still)) first second

-- what stands in front of a name in order is below it
front_below : (front : List PlainName) (name : PlainName) (rest : List PlainName) → IsStrictlySortedBy name_cmp (front ++ name ∷ rest)
    → (other : PlainName) → Contains front other → name_cmp other name ≡ Less
unfolding IsStrictlySortedBy
front_below [] name rest sorted other among = absurd (Contains-none other among)
front_below (first ∷ front) name rest sorted other among = ⊎_elim
    (λ same. subst (λ n. name_cmp n name ≡ Less) same (AllByRecursion-at (λ n. name_cmp first n ≡ Less) (front ++ name ∷ rest) name sorted.0
    (Contains-append_right front (name ∷ rest) name (Contains-cons name rest name (inl refl)))))
    (λ later. front_below front name rest sorted.1 other later)
    (Contains-cons_cases first front other among)

module _ (extensions : Extensions) (old new : PlainSchema) where
  -- what is found of a subject is added to what is reported
  pub reported_found : (all rest : List Subject) (reported : List PlainDifference) (first : Subject) (it : PlainDifference)
      → IsAnswer extensions old new first (Some it)
      → AnswersSoFar extensions old new all (first ∷ rest) reported → AnswersSoFar extensions old new all rest (reported ++ it ∷ [])
  reported_found all rest reported first it answer so_far = reported_lost extensions old new all rest reported first it answer.0 answer.1 so_far

  -- the answers to the environments of one more principal
  pub principals_more : (uid : PlainUid) (resources front : List PlainName) (principal : PlainName) (rest : List PlainName)
      (reported more : List PlainDifference) → IsStrictlySortedBy name_cmp (front ++ principal ∷ rest)
      → AreAnswers extensions old new (flat_map (λ p. subjects_with uid p resources) front) reported
      → AreAnswers extensions old new (subjects_with uid principal resources) more
      → AreAnswers extensions old new (flat_map (λ p. subjects_with uid p resources) (front ++ principal ∷ [])) (reported ++ more)
  principals_more uid resources front principal rest reported more sorted one other =
      let with : PlainName → List Subject = λ p. subjects_with uid p resources in
      let P : List Subject → Type 0 = λ subjects. AreAnswers extensions old new subjects (reported ++ more) in
      subst P (sym (flat_map-append with front (principal ∷ []) ∙ ap (λ xs. flat_map with front ++ xs) (append-nil (with principal))))
      (answered_append extensions old new (flat_map with front) (with principal) reported more below one other)
    where
      -- the environments so far are below those of the principal
      below : (a b : Subject) → Contains (flat_map (λ p. subjects_with uid p resources) front) a
          → Contains (subjects_with uid principal resources) b → subject_cmp a b ≡ Less
      below a b among there =
          let found = Contains-flat_map (λ p. subjects_with uid p resources) front a among in
          let one = Contains-preimage (environment_subject found.0 uid) resources a found.2 in
          let other = Contains-preimage (environment_subject principal uid) resources b there in
          subst (λ s. subject_cmp s b ≡ Less) one.2 (subst (λ s. subject_cmp (environment_subject found.0 uid one.0) s ≡ Less) other.2
          (principals_below uid found.0 principal one.0 other.0 (front_below front principal rest sorted found.0 found.1)))

  -- where no context is at a uid, nothing is reported of its environments
  pub no_answers : IsKeyed old → (uid : PlainUid) (o : Option SchemaAction) → IsActionAt old uid o → context_at o ≡ None
      → AreActionAnswers extensions old new uid []
  no_answers keyed uid o at nothing = (
    [],
    record {
      all = λ it of named. absurd (none_left it of named);
      alone = λ it there. absurd (Contains-none it there);
    },
    answered_none extensions old new,
  )
    where
      -- there is none of them
      none_left : (it : Environment) → IsEnvironmentOf old it → ¬ (it.action ≡ uid)
      none_left it of named =
          let P : PlainUid → Type 0 = λ u. IsEnvironmentOf old
          (record { principal = it.principal; action = u; resource = it.resource; context = it.context }) in
          let is : context_at o ≡ Some it.context = context_there old uid keyed o at it.principal it.resource it.context (subst P named of) in
          let wrong : None ≡ Some it.context = sym nothing ∙ is in absurd cc

  module _ (uid : PlainUid) (action : SchemaAction) (there : Contains old.actions (uid, action)) where
    -- an action's context with each of its principals and resources is an environment of the schema
    pub asked_of : (ty : Ty) → kind_context action.kind ≡ Some ty → (principal resource : PlainName)
        → Contains (kind_principals action.kind) principal → Contains (kind_resources action.kind) resource
        → IsEnvironmentOf old (record { principal = principal; action = uid; resource = resource; context = ty })
    asked_of ty is principal resource first second = (
      action,
      there,
      environment_of_kind action.kind (record { principal = principal; action = uid; resource = resource; context = ty }) first second is,
    )

    -- the answers to the environments of its principals and its resources are those to the action
    pub action_answers : IsKeyed old → (principals resources : List PlainName) (reported : List PlainDifference)
        → SameItems principals (kind_principals action.kind) → SameItems resources (kind_resources action.kind)
        → AreAnswers extensions old new (flat_map (λ p. subjects_with uid p resources) principals) reported
        → AreActionAnswers extensions old new uid reported
    action_answers keyed principals resources reported first second answers = (
      flat_map with principals,
      record {
        all = λ it (other, there', of) named. (let same : action ≡ other =
            keyed.actions uid action other there (subst (λ u. Contains old.actions (u, other)) named there') in
            let is = kind_of_environment other.kind it of in
            let P : SchemaAction → Type 0 = λ a. Contains (kind_principals a.kind) it.principal in
            let Q : SchemaAction → Type 0 = λ a. Contains (kind_resources a.kind) it.resource in
            Contains-given with principals it.principal (environment_subject it.principal uid it.resource)
            ((first it.principal).1 (subst P (sym same) is.2))
            (Contains-image (environment_subject it.principal uid) resources it.resource ((second it.resource).1 (subst Q (sym same) is.3))));
        alone = λ it among. (let found = Contains-flat_map with principals it among in
            let one = Contains-preimage (environment_subject found.0 uid) resources it found.2 in
            (found.0, one.0, sym one.2));
      },
      answers,
    )
      where
        -- the environments of a principal
        with : PlainName → List Subject
        with = λ p. subjects_with uid p resources

-- where one more item is copied as one that stands for the same, the copies stand for one more of
-- the items
pub copied_more : {A B : Type 0} (f : A → B) (items copies more : List A) (i : ℕ) (item copy : A) → i < length items
    → item ≡ get_or items i item → map f copies ≡ map f (take i items) → more ≡ copies ++ copy ∷ [] → f copy ≡ f item
    → map f more ≡ map f (take (i + 1) items)
copied_more f items copies more i item copy within is so_far added same =
    let front : map f (take (i + 1) items) ≡ map f (take i items) ++ f item ∷ [] =
    ap (map f) (take_more items i item within ∙ ap (λ x. take i items ++ x ∷ []) (sym is)) ∙ map-append f (take i items) (item ∷ []) in
    ap (map f) added ∙ (map-append f copies (copy ∷ []) ∙ (ap (λ xs. xs ++ f copy ∷ []) so_far
    ∙ (ap (λ x. map f (take i items) ++ x ∷ []) same ∙ sym front)))

-- where no difference is found of a subject, it is kept
pub kept_none : {A : Type 0} (plain : A → PlainDifference) (extensions : Extensions) (old new : PlainSchema) (subject : Subject)
    (found : Option A) → ((it : A) → found ≡ Some it → ⊥) → IsAnswer extensions old new subject (option_map plain found)
    → KeepsOf extensions old new subject
kept_none plain extensions old new subject None none answer = answer
kept_none plain extensions old new subject (Some it) none answer = absurd (none it refl)
