use Rattle.std.proofs.Common.{List, Contains, ap, inl, inr, map, refl, subst, sym, ◌∙◌}
use Rattle.std.specs.List.Sorted.{IsStrictlySortedBy}
use Rattle.cedar_ast.proofs.Lists.{Contains-cons}
use Rattle.cedar_compare.proofs.CompareLemmas.{entities_sorted, member_of_action, reported_difference, reported_nothing, reported_start}
use Rattle.cedar_compare.proofs.ReportedLemmas.{reported_all}
use Rattle.cedar_compare.proofs.losses.lost_actions.Goals as goal
use Rattle.cedar_compare.specs.Words.{Entity, action_subject, action_subjects, entities_of, entity_uid, new_of, old_of, plain_difference, uid_cmp}

-- at first nothing is reported, and the entities of all actions are left, in the order of their
-- uids
pub loop-entity-init : goal.loop-entity-init
loop-entity-init c =
    let versions = c.args.versions.now in
    let entities = c.into_iter-entity-iterator.result in
    let are = c.into_iter-entity-iterator.ensures.into_iter_gives ∙ c.iter-entity-items.ensures.entities in
    record {
      reported = reported_start versions.extensions.now (old_of versions) (new_of versions) (action_subjects (entities_of c.args.entities.now))
          (action_subjects entities) c.new-lost.result.items (ap action_subjects are) c.new-lost.ensures.items
          (entities_sorted entities
          (subst (λ (xs : List Entity). IsStrictlySortedBy uid_cmp (map entity_uid xs)) (sym are) c.iter-entity-items.ensures.ordered));
      among = λ it there. subst (λ (xs : List Entity). Contains xs it) are there;
    }

-- each of the entities is that of an action of the old version
pub lost_action-requires-clause-entity : goal.lost_action-requires-clause-entity
lost_action-requires-clause-entity c =
    let first = c.in-Some.entity.now in
    member_of_action c.args.versions.now.old.now (old_of c.args.versions.now).entity_types (entities_of c.args.entities.now) first
    c.requires.entities
    (c.loop-entity.invariant.among first (subst (λ (xs : List Entity). Contains xs first) (sym c.in-Some.ensures.steps)
    (Contains-cons first c.next.new.self first (inl refl))))

-- the entity of one more action is lost, and its difference is reported
pub loop-entity-preserved-in-Continue-branch-4 : goal.loop-entity-preserved-in-Continue-branch-4
loop-entity-preserved-in-Continue-branch-4 c =
    let versions = c.args.versions.now in
    let first = c.in-Some.entity.now in
    record {
      reported = reported_difference versions.extensions.now (old_of versions) (new_of versions) (action_subjects (entities_of c.args.entities.now))
          (action_subjects c.loop-entity.entity-iterator) (action_subjects c.next.new.self) c.loop-entity.lost.items
          c.push.new.self.items (action_subject (entity_uid first)) c.in_ok-difference.field-0 c.in-Some-2.difference
          (ap action_subjects c.in-Some.ensures.steps) c.in-Some-2.is c.in_ok-push.ensures.items c.in_ok-difference.ensures
          c.loop-entity.invariant.reported;
      among = λ it there. c.loop-entity.invariant.among it (subst (λ (xs : List Entity). Contains xs it) (sym c.in-Some.ensures.steps)
          (Contains-cons first c.next.new.self it (inr there)));
    }

-- the entity of one more action is kept, and nothing is reported of it
pub loop-entity-preserved : goal.loop-entity-preserved
loop-entity-preserved c =
    let versions = c.args.versions.now in
    let first = c.in-Some.entity.now in
    record {
      reported = reported_nothing versions.extensions.now (old_of versions) (new_of versions) (action_subjects (entities_of c.args.entities.now))
          (action_subjects c.loop-entity.entity-iterator) (action_subjects c.next.new.self) c.loop-entity.lost.items
          (action_subject (entity_uid first)) c.in_ok-difference.field-0 (ap action_subjects c.in-Some.ensures.steps)
          c.in_default.is c.in_ok-difference.ensures c.loop-entity.invariant.reported;
      among = λ it there. c.loop-entity.invariant.among it (subst (λ (xs : List Entity). Contains xs it) (sym c.in-Some.ensures.steps)
          (Contains-cons first c.next.new.self it (inr there)));
    }

-- where no entity is left, each is kept or reported
pub returns : goal.returns
returns c =
    let versions = c.args.versions.now in
    reported_all versions.extensions.now (old_of versions) (new_of versions) (action_subjects (entities_of c.args.entities.now))
    (action_subjects c.loop-entity.entity-iterator) (map plain_difference c.loop-entity.lost.items)
    (ap action_subjects c.in-None.ensures.steps.0) c.loop-entity.invariant.reported
