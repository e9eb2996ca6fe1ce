use Rattle.std.proofs.Common.{Option, None, ap, subst, sym, ◌∙◌}
use Rattle.std.proofs.lemmas.Bool.{false≢true}
use Rattle.std.specs.Option.{option_map}
use Rattle.cedar_compare.proofs.ActionLemmas.{kept_defined, kept_of_type, lost_by_cause, of_type_alike}
use Rattle.cedar_compare.proofs.actions.lost_action.Goals as goal
use Rattle.cedar_compare.specs.Words.{Cause, IsActionAnswer, IsActionCause, IsEntityOfType, PlainUid, action_subject, entity_uid, new_of, old_of, plain_action_entity, plain_cause, uid_of}

-- an entity that is of one of the new version's entity types is kept
pub returns-then-is_bare_of_type : goal.returns-then-is_bare_of_type
returns-then-is_bare_of_type c =
    let versions = c.args.versions.now in
    let extensions = versions.extensions.now in
    kept_of_type extensions (old_of versions) (new_of versions) (plain_action_entity c.args.entity.now) c.requires.entity
    ((c.is_bare_of_type.ensures extensions).0 c.if-is_bare_of_type.true)

-- the action is kept where the new version defines it and the same actions stand above it
pub returns-in-None : goal.returns-in-None
returns-in-None c =
    let versions = c.args.versions.now in
    let old = old_of versions in
    let new = new_of versions in
    let uid = entity_uid c.args.entity.now in
    let P : PlainUid → Type 0 = λ u. IsActionAnswer old new u None in
    let alike = subst P c.uid.ensures.uid
    (subst (λ (o : Option Cause). IsActionAnswer old new (uid_of c.uid.result.now) (option_map plain_cause o)) c.in-None.is c.in_ok-cause.ensures) in
    kept_defined versions.extensions.now old new uid alike.0 alike.1 alike.2

-- the entity is of no entity type of the new version, so with a true cause its copy is a witness
pub returns-in_ok-copied-in-Some : goal.returns-in_ok-copied-in-Some
returns-in_ok-copied-in-Some c =
    let versions = c.args.versions.now in
    let extensions = versions.extensions.now in
    let old = old_of versions in
    let new = new_of versions in
    let cause = plain_cause c.in-Some.cause in
    let witness = plain_action_entity c.in_ok-copied-in-Some.field-0 in
    let same = c.in_ok-copied-in-Some.ensures.uid in
    let answer = subst (λ (o : Option Cause). IsActionAnswer old new (uid_of c.uid.result.now) (option_map plain_cause o)) c.in-Some.is c.in_ok-cause.ensures in
    let true_cause = subst (λ u. IsActionCause old new u cause) (c.uid.ensures.uid ∙ sym same) answer in
    let no_type : ¬ IsEntityOfType extensions new witness = λ of.
    false≢true (sym c.if-is_bare_of_type.false ∙ (c.is_bare_of_type.ensures extensions).1
    (of_type_alike extensions new old (plain_action_entity c.args.entity.now) witness (sym same) c.requires.entity c.in_ok-copied-in-Some.ensures.action of)) in (
      ap action_subject same,
      (lost_by_cause extensions old new witness cause c.in_ok-copied-in-Some.ensures.real c.in_ok-copied-in-Some.ensures.action no_type true_cause, true_cause),
    )
