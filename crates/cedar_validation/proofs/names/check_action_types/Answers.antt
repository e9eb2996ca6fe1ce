use Rattle.std.proofs.Common.{sym, subst, ◌∙◌, inr}
use Rattle.std.proofs.lemmas.Bool.{false≢true}
use Rattle.std.specs.Map.{keys_of}
use Rattle.cedar_validation.proofs.Checking.{checking_all, checking_here, checking_more, checking_none}
use Rattle.cedar_validation.proofs.Keyed.{key_of_uid, key_with_uid}
use Rattle.cedar_validation.proofs.names.check_action_types.Goals as goal
use Rattle.cedar_validation.specs.Words.{HasAction, IsActionType, PlainUid, plain_parts, uid_of}

pub loop-uid-init : goal.loop-uid-init
loop-uid-init c =
    checking_none (λ uid. IsActionType (uid_of uid).ty) (keys_of c.args.parts.now.actions.entries) _
    (c.into_iter-uid-iterator.ensures.into_iter_gives ∙ c.keys-uid-items.ensures.rest)

pub loop-uid-preserved : goal.loop-uid-preserved
loop-uid-preserved c =
    checking_more (λ uid. IsActionType (uid_of uid).ty) (keys_of c.args.parts.now.actions.entries) _ _
    c.in-Some.uid.now c.in-Some.ensures.steps c.loop-uid.invariant (c.is_action.ensures.0 c.if-not-is_action.false)

pub returns-clause-sound : goal.returns-clause-sound
returns-clause-sound c = λ uid among.
    let actions = c.args.parts.now.actions.entries in
    let key = key_of_uid actions uid among in
    let P : PlainUid → Type 0 = λ it. IsActionType it.ty in
    subst P key.2
    (checking_all (λ each. IsActionType (uid_of each).ty) (keys_of actions) _ c.in-None.ensures.steps.0 c.loop-uid.invariant key.0 key.1)

pub returns-then-not-is_action-clause-fault : goal.returns-then-not-is_action-clause-fault
returns-then-not-is_action-clause-fault c =
    let actions = c.args.parts.now.actions.entries in
    let key = c.in-Some.uid.now in
    let among =
    checking_here (λ each. IsActionType (uid_of each).ty) (keys_of actions) _ _ key c.in-Some.ensures.steps c.loop-uid.invariant in
    let P : PlainUid → Type 0 = λ it. HasAction (plain_parts c.args.parts.now) it × ¬ IsActionType it.ty in
    inr (λ extensions. subst P (sym c.in_ok-clone.ensures.uid)
    (key_with_uid actions key among, λ is. false≢true (sym c.if-not-is_action.true ∙ c.is_action.ensures.1 is)))
