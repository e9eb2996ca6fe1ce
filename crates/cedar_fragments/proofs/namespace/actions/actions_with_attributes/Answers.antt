use Rattle.std.proofs.Common.{sym, ◌∙◌}
use Rattle.cedar_fragments.proofs.AttributeLemmas.{IdsSoFar-none, IdsSoFar-listed, IdsSoFar-passed, ids_all, ids_of_map}
use Rattle.cedar_fragments.proofs.namespace.actions.actions_with_attributes.Goals as goal

pub loop-id-init : goal.loop-id-init
loop-id-init c = IdsSoFar-none _ _ _ (sym c.into_iter-id-iterator.ensures.into_iter_gives.0) c.new-ids.ensures.items

pub loop-id-preserved : goal.loop-id-preserved
loop-id-preserved c =
    IdsSoFar-passed _ _ c.next.new.self _ c.in-Some.id.now c.in-Some.action.now c.in-Some.ensures.steps
    (sym c.is_some.ensures ∙ c.if-is_some.false) c.loop-id.invariant

pub loop-id-preserved-in_ok-push : goal.loop-id-preserved-in_ok-push
loop-id-preserved-in_ok-push c =
    IdsSoFar-listed _ _ c.next.new.self _ _ c.in-Some.id.now c.in_ok-clone.field-0 c.in-Some.action.now c.in-Some.ensures.steps
    (sym c.is_some.ensures ∙ c.if-is_some.true) c.in_ok-clone.ensures.cases c.in_ok-push.ensures.items c.loop-id.invariant

pub returns-clause-listed : goal.returns-clause-listed
returns-clause-listed c = ids_all _ _ _ c.in-None.ensures.steps.0 c.loop-id.invariant

pub returns-clause-in_order : goal.returns-clause-in_order
returns-clause-in_order c =
    ids_of_map c.args.written.now.entries c.loop-id.ids.items c.into_iter-id-iterator.ensures.into_iter_gives.5
    (ids_all _ _ _ c.in-None.ensures.steps.0 c.loop-id.invariant)
