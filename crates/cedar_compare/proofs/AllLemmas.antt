-- What is reported of all that two versions of a schema admit.
use Rattle.std.proofs.Common.{◌≡◌, ◌⊎◌, List, [], ◌∷◌, ◌++◌, inl, inr, refl, ap, subst, sym, ◌∙◌, ⊎_elim, map, Contains}
use Rattle.std.proofs.lemmas.List.Elements.{Contains-append_cases, Contains-append_left, Contains-append_right}
use Rattle.std.specs.List.{AllByRecursion}
use Rattle.std.specs.List.Sorted.{IsStrictlySortedBy}
use Rattle.std.specs.Ordering.{ordering_then}
use Rattle.std.specs.declared.cmp.Ordering.{Ordering}
use Rattle.std.specs.declared.cmp.Ordering.TheVariants.{Less, Equal}
use Rattle.cedar_ast.proofs.Basics.{Contains-none}
use Rattle.cedar_ast.proofs.Lists.{Contains-cons_cases, Contains-preimage}
use Rattle.cedar_ast.proofs.Ordered.{IsStrictlySortedBy-map}
use Rattle.cedar_ast.proofs.PlainNames.{name_cmp-Equal, uid_cmp-Equal}
use Rattle.cedar_compare.proofs.ReportedLemmas.{answered_append}
use Rattle.cedar_compare.specs.Words.{AreActionAnswers, AreAnswers, AreLosses, DefinesAction, Environment, Extensions, IsEnvironmentOf, IsLoss, Keeps, KeepsOf, LosesOf, PlainDifference, PlainName, PlainSchema, PlainUid, SchemaEntityType, Subject, action_lost, action_subject, entity_lost, environment_subject, name_cmp, request_lost, subject_cmp, subject_of, type_subject, uid_cmp}

-- environments of one action with one principal are in the order of their resources
same_head : (uid : PlainUid) (principal r s : PlainName)
    → name_cmp r s ≡ subject_cmp (environment_subject principal uid r) (environment_subject principal uid s)
same_head uid principal r s =
    let E : Ordering → Ordering → Ordering = λ a b. ordering_then a (ordering_then b (name_cmp r s)) in
    sym (ap (λ a. E a (name_cmp principal principal)) ((uid_cmp-Equal uid uid).1 refl) ∙ ap (E Equal) ((name_cmp-Equal principal principal).1 refl))

-- so environments of resources in order are in order
pub subjects_sorted : (uid : PlainUid) (principal : PlainName) (resources : List PlainName) → IsStrictlySortedBy name_cmp resources
    → IsStrictlySortedBy subject_cmp (map (environment_subject principal uid) resources)
subjects_sorted uid principal resources =
    IsStrictlySortedBy-map name_cmp subject_cmp (environment_subject principal uid) (same_head uid principal) resources

-- environments of one action are in the order of their principals
pub principals_below : (uid : PlainUid) (p q r s : PlainName) → name_cmp p q ≡ Less
    → subject_cmp (environment_subject p uid r) (environment_subject q uid s) ≡ Less
principals_below uid p q r s less =
    let E : Ordering → Ordering → Ordering = λ a b. ordering_then a (ordering_then b (name_cmp r s)) in
    ap (λ a. E a (name_cmp p q)) ((uid_cmp-Equal uid uid).1 refl) ∙ ap (E Equal) less

-- environments are in the order of their actions
pub actions_below : (u v : PlainUid) (p q r s : PlainName) → uid_cmp u v ≡ Less
    → subject_cmp (environment_subject p u r) (environment_subject q v s) ≡ Less
actions_below u v p q r s less = ap (λ a. ordering_then a (ordering_then (name_cmp p q) (name_cmp r s))) less

module _ (extensions : Extensions) (old new : PlainSchema) where
  -- the requests of some actions are reported, but for actions that are left, which are above all
  -- these
  pub record RequestsSoFar (left : List PlainUid) (reported : List PlainDifference) : Type 0 where
    pub subjects : List Subject
    pub answers : AreAnswers extensions old new subjects reported
    pub all : (it : Environment) → IsEnvironmentOf old it
        → Contains left it.action ⊎ Contains subjects (environment_subject it.principal it.action it.resource)
    pub alone : (it : Subject) → Contains subjects it → (principal : PlainName) × (uid : PlainUid) × (resource : PlainName)
        × (it ≡ environment_subject principal uid resource) × AllByRecursion (λ other. uid_cmp uid other ≡ Less) left
    pub in_order : IsStrictlySortedBy uid_cmp left

  -- the requests of one more action are reported
  pub requests_more : (uid : PlainUid) (rest : List PlainUid) (reported more : List PlainDifference)
      → AreActionAnswers extensions old new uid more → RequestsSoFar (uid ∷ rest) reported → RequestsSoFar rest (reported ++ more)
  unfolding IsStrictlySortedBy
  requests_more uid rest reported more (subjects, are, answers) so_far = record {
    subjects = so_far.subjects ++ subjects;
    answers = answered_append extensions old new so_far.subjects subjects reported more below so_far.answers answers;
    all = λ it of. ⊎_elim
        (λ left. ⊎_elim
        (λ same. inr (Contains-append_right so_far.subjects subjects (environment_subject it.principal it.action it.resource)
        (subst (λ u. Contains subjects (environment_subject it.principal u it.resource)) same (are.all it of (sym same)))))
        (λ later. inl later)
        (Contains-cons_cases uid rest it.action left))
        (λ there. inr (Contains-append_left so_far.subjects subjects (environment_subject it.principal it.action it.resource) there))
        (so_far.all it of);
    alone = λ it among. ⊎_elim
        (λ before. (let one = so_far.alone it before in (one.0, one.1, one.2, one.3, one.4.1)))
        (λ here. (let one = are.alone it here in (one.0, uid, one.1, one.2, so_far.in_order.0)))
        (Contains-append_cases so_far.subjects subjects it among);
    in_order = so_far.in_order.1;
  }
    where
      below : (one other : Subject) → Contains so_far.subjects one → Contains subjects other → subject_cmp one other ≡ Less
      below one other first second =
          let a = so_far.alone one first in
          let b = are.alone other second in
          let less = actions_below a.1 uid a.0 b.0 a.2 b.1 a.4.0 in
          ap (λ s. subject_cmp s other) a.3 ∙ (ap (subject_cmp (environment_subject a.0 a.1 a.2)) b.2 ∙ less)

  -- what is lost of a subject isn't kept
  lost_not_kept : (subject : Subject) → LosesOf extensions old new subject → ¬ KeepsOf extensions old new subject
  lost_not_kept (type_subject name) (it, named, (real, of, none)) keeps = none (keeps it named real of)
  lost_not_kept (action_subject uid) (it, named, (real, of, none)) keeps = none (keeps it named real of)
  lost_not_kept (environment_subject p u r) (it, types, (real, of, none)) keeps = none (keeps it types real of)

  -- a true difference says that something is lost of its subject
  loses_subject : (it : PlainDifference) → IsLoss extensions old new it → LosesOf extensions old new (subject_of it)
  loses_subject (entity_lost it cause) loss = (it, refl, loss.0)
  loses_subject (action_lost it cause) loss = (it, refl, loss.0)
  loses_subject (request_lost it cause) loss =
      (it, record { principal_type = refl; of_action = refl; resource_type = refl }, loss.0)

  -- the subjects are all of which the old schema admits something
  pub record AreAllSubjects (subjects : List Subject) : Type 0 where
    pub types : (name : PlainName) (it : SchemaEntityType) → Contains old.entity_types (name, it) → Contains subjects (type_subject name)
    pub actions : (uid : PlainUid) → DefinesAction old uid → Contains subjects (action_subject uid)
    pub environments : (it : Environment) → IsEnvironmentOf old it
        → Contains subjects (environment_subject it.principal it.action it.resource)

  module _ (subjects : List Subject) (reported : List PlainDifference) (all : AreAllSubjects subjects)
      (answers : AreAnswers extensions old new subjects reported) where
    -- a subject of which something is lost is one of them
    lost_among : (subject : Subject) → LosesOf extensions old new subject → Contains subjects subject
    lost_among (type_subject name) (it, named, (real, (ty, there, of), none)) =
        all.types name ty (subst (λ n. Contains old.entity_types (n, ty)) named there)
    lost_among (action_subject uid) (it, named, (real, of, none)) = all.actions uid (subst (DefinesAction old) named of.defined)
    lost_among (environment_subject p u r) (it, types, (real, (environment, of, types', has, names, first, second), none)) =
        let P : PlainName → PlainUid → PlainName → Type 0 = λ q v s. Contains subjects (environment_subject q v s) in
        subst (λ q. P q u r) (sym types'.principal_type ∙ types.principal_type)
        (subst (λ v. P environment.principal v r) (sym types'.of_action ∙ types.of_action)
        (subst (λ s. P environment.principal environment.action s) (sym types'.resource_type ∙ types.resource_type) (all.environments environment of)))

    -- what is reported is just what is lost
    pub all_losses : AreLosses extensions old new reported
    all_losses = record {
      each = λ subject. (
        λ among. (let found = Contains-preimage subject_of reported subject among in
            subst (LosesOf extensions old new) found.2 (loses_subject found.0 (answers.true_ones found.0 found.1))),
        λ loses. ⊎_elim (λ keeps. absurd (lost_not_kept subject loses keeps)) (λ there. there) (answers.each subject (lost_among subject loses)),
      );
      true_ones = answers.true_ones;
      in_order = answers.in_order;
    }

    -- where nothing is reported, all is kept
    pub nothing_lost : reported ≡ [] → Keeps extensions old new
    nothing_lost none =
        let keeps : (subject : Subject) → Contains subjects subject → KeepsOf extensions old new subject = λ subject among.
        ⊎_elim (λ kept. kept) (λ there. absurd (Contains-none subject (subst (λ ds. Contains (map subject_of ds) subject) none there)))
        (answers.each subject among) in
        record {
          entities = λ it real of. ⊎_elim
              (λ of'. keeps (type_subject it.uid.ty) (all.types it.uid.ty of'.0 of'.1) it refl real of')
              (λ of'. keeps (action_subject it.uid) (all.actions it.uid of'.defined) it refl real of')
              of;
          requests = λ it real (environment, of, types, has, names, first, second).
              keeps (environment_subject environment.principal environment.action environment.resource) (all.environments environment of) it types real
              (environment, of, types, has, names, first, second);
        }
