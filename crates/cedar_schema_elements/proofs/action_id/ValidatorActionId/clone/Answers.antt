use Rattle.std.proofs.Common.{ap, subst, sym, ◌∙◌}
use Rattle.cedar_schema_elements.proofs.SetLemmas.{tied-uid, uids_collected}
use Rattle.cedar_schema_elements.proofs.action_id.ValidatorActionId.clone.Goals as goal
use Rattle.cedar_schema_elements.specs.ActionKind.{plain_kind}
use Rattle.cedar_schema_elements.specs.Words.{SameActionKind}
use Rattle.cedar_schema_elements.specs.declared.action_id.ActionParts.{ActionParts}
use Rattle.cedar_schema_semantics.proofs.SameActions.{kind_itself}

pub copied_in_order-requires-clause-equal : goal.copied_in_order-requires-clause-equal
copied_in_order-requires-clause-equal c item answer ran = tied-uid item ran.shown.now answer ran.shows ran.says.met.0

pub returns-clause-kind : goal.returns-clause-kind
returns-clause-kind c =
    let kind = plain_kind c.args.self.now.parts.value.kind in
    rw c.in_ok-new.ensures.ok (subst (λ copy. SameActionKind copy kind)
    (sym (c.in_ok-clone-2.ensures ∙ ap (λ (parts : ActionParts). plain_kind parts.kind) c.deref-2.ensures)) (kind_itself kind))

pub returns-clause-descendants : goal.returns-clause-descendants
returns-clause-descendants c =
    let copies = c.in_ok-copied_in_order in
    rw c.in_ok-new.ensures.ok (uids_collected copies.field-0 c.args.self.now.parts.value.descendants.keys
    (rw c.deref-3.ensures at copies.ensures.keys, copies.ensures.in_order))
