use Rattle.std.proofs.Common.{refl, sym, ◌∙◌}
use Rattle.std.proofs.lemmas.Bool.{false≢true}
use Rattle.cedar_schema_elements.proofs.EntityLemmas.{EntitiesSoFar, AncestorsLeft, entities_all, entities_none, entities_passed, entities_put, left_all, left_here, left_rest, same_entity}
use Rattle.cedar_schema_elements.proofs.KeyLemmas.{cmp, uids_once}
use Rattle.cedar_schema_elements.proofs.entities_of_actions.action_entities.Goals as goal
use Rattle.cedar_schema_elements.proofs.entities_of_actions.action_entities.Goals.{In_ok-insert}
use Rattle.cedar_schema_elements.specs.Words.{IsAncestor, Lists, plain_action_entity, uid_of}

pub loop-uid-init : goal.loop-uid-init
loop-uid-init c =
    let actions = c.args.actions.now.entries in (
      entities_none actions _ c.new-entities.result c.into_iter-uid-iterator.ensures.into_iter_gives.0 c.new-entities.ensures,
      left_all actions _ _ c.into_iter-uid-iterator.ensures.into_iter_gives.0
          (uids_once actions c.into_iter-uid-iterator.ensures.into_iter_gives.1) c.in_ok-ancestors.ensures,
    )

pub loop-uid-preserved : goal.loop-uid-preserved
loop-uid-preserved c =
    let actions = c.args.actions.now.entries in (
      entities_passed actions _ _ c.loop-uid.entities c.in-Some.uid.now c.in-Some.action.now c.in-Some.ensures.steps
          c.loop-uid.invariant.0 (c.is_external.ensures.0 c.if-not-is_external.false),
      left_rest actions _ _ c.loop-uid.ancestors c.in-Some.uid.now c.in-Some.action.now c.in-Some.ensures.steps
          c.loop-uid.invariant.1 c.loop-uid.ancestors (λ other apart. refl),
    )

-- the entity of one more action is put in
put : (c : In_ok-insert) → EntitiesSoFar c.args.actions.now.entries c.insert.new.self c.next.new.self
    × AncestorsLeft c.args.actions.now.entries c.action_entity.new.ancestors c.next.new.self
put c =
    let actions = c.args.actions.now.entries in
    let uid = c.in-Some.uid.now in
    let entity = c.in_ok-action_entity.field-0 in
    let here = left_here actions _ _ c.loop-uid.ancestors uid c.in-Some.action.now c.in-Some.ensures.steps c.loop-uid.invariant.1 in (
      entities_put actions _ _ c.loop-uid.entities uid c.in-Some.action.now c.in-Some.ensures.steps c.loop-uid.invariant.0
          (λ is. false≢true (sym c.if-not-is_external.true ∙ c.is_external.ensures.1 is)) c.insert.new.self entity
          (same_entity (IsAncestor cmp uid_of c.loop-uid.ancestors uid) (Lists actions (uid_of uid)) (uid_of uid) (plain_action_entity entity) here
          c.in_ok-action_entity.ensures.entity)
          c.in_ok-insert.ensures.inserted c.in_ok-insert.ensures.others c.in_ok-insert.ensures.ordered,
      left_rest actions _ _ c.loop-uid.ancestors uid c.in-Some.action.now c.in-Some.ensures.steps c.loop-uid.invariant.1
          c.action_entity.new.ancestors c.in_ok-action_entity.ensures.others,
    )

pub loop-uid-preserved-in_ok-insert : goal.loop-uid-preserved-in_ok-insert
loop-uid-preserved-in_ok-insert c = put (goal.at.loop-uid-preserved-in_ok-insert c).In_ok-insert

pub loop-uid-preserved-in_ok-insert-2 : goal.loop-uid-preserved-in_ok-insert-2
loop-uid-preserved-in_ok-insert-2 c = put (goal.at.loop-uid-preserved-in_ok-insert-2 c).In_ok-insert

pub returns : goal.returns
returns c = λ types.
    entities_all c.args.actions.now.entries _ c.loop-uid.entities c.in-None.ensures.steps.0 c.loop-uid.invariant.0 types
