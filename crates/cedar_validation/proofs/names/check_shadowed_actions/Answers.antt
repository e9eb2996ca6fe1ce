use Rattle.std.proofs.Common.{ap, sym, subst, ◌∙◌, inr}
use Rattle.std.proofs.lemmas.Bool.{false≢true}
use Rattle.std.specs.Map.{keys_of}
use Rattle.cedar_validation.proofs.Checking.{checking_all, checking_here, checking_more, checking_none}
use Rattle.cedar_validation.proofs.Keyed.{action_stands, key_of_uid, key_with_uid}
use Rattle.cedar_validation.proofs.Shadowed.{ShadowsNoAction, no_action_shadows}
use Rattle.cedar_validation.proofs.names.check_shadowed_actions.Goals as goal
use Rattle.cedar_validation.specs.Words.{HasAction, IsUnqualified, PlainName, PlainUid, ShadowsAction, plain_parts, uid_of}

-- at first no action is checked, and all are left
pub loop-uid-init : goal.loop-uid-init
loop-uid-init c =
    checking_none (ShadowsNoAction c.args.parts.now) (keys_of c.args.parts.now.actions.entries) _
    (c.into_iter-uid-iterator.ensures.into_iter_gives ∙ c.keys-uid-items.ensures.rest)

-- the schema has no action of this id whose type has no namespace, so nothing shadows this one
pub loop-uid-preserved : goal.loop-uid-preserved
loop-uid-preserved c =
    let parts = c.args.parts.now in
    let actions = parts.actions.entries in
    let key = c.in-Some.uid.now in
    let plain = c.new-plain.result in
    let among = checking_here (ShadowsNoAction parts) (keys_of actions) _ _ key c.in-Some.ensures.steps c.loop-uid.invariant in
    let absent = λ (there : HasAction (plain_parts parts) (uid_of plain)).
    false≢true (sym c.if-contains_key.false ∙ (c.contains_key.ensures ∙ (action_stands actions plain).1 there)) in
    checking_more (ShadowsNoAction parts) (keys_of actions) _ _ key c.in-Some.ensures.steps c.loop-uid.invariant
    (no_action_shadows parts key (uid_of plain) (key_with_uid actions key among)
    (ap (λ (it : PlainName). it.base) c.new-plain.ensures.ty ∙ (c.in_ok-ty.ensures.base
    ∙ ap (λ (it : PlainName). it.base) c.entity_type-in-loop-uid.ensures.name))
    (ap (λ (it : PlainName). it.path) c.new-plain.ensures.ty ∙ c.in_ok-ty.ensures.path)
    (c.new-plain.ensures.eid ∙ (c.in_ok-clone.ensures ∙ c.eid.ensures)) absent)

-- an action whose type has no namespace can't be shadowed
pub loop-uid-preserved-then-is_unqualified : goal.loop-uid-preserved-then-is_unqualified
loop-uid-preserved-then-is_unqualified c =
    let parts = c.args.parts.now in
    checking_more (ShadowsNoAction parts) (keys_of parts.actions.entries) _ _ c.in-Some.uid.now c.in-Some.ensures.steps
    c.loop-uid.invariant
    (λ are plain among shadows. shadows.1 (ap (λ (it : PlainName). it.path) (sym (c.name.ensures.name ∙ c.entity_type.ensures.name))
    ∙ c.is_unqualified.ensures.0 c.if-is_unqualified.true))

-- each action's uid is a key of the table, and all keys were checked
pub returns-clause-sound : goal.returns-clause-sound
returns-clause-sound c = λ are plain qualified among_plain among.
    let actions = c.args.parts.now.actions.entries in
    let key = key_of_uid actions qualified among in
    let P : PlainUid → Type 0 = λ it. ¬ ShadowsAction plain it in
    subst P key.2
    (checking_all (ShadowsNoAction c.args.parts.now) (keys_of actions) _ c.in-None.ensures.steps.0 c.loop-uid.invariant key.0 key.1
    are plain among_plain)

-- both uids are actions of the schema, and the one without a namespace shadows the other
pub returns-then-contains_key-clause-fault : goal.returns-then-contains_key-clause-fault
returns-then-contains_key-clause-fault c =
    let parts = c.args.parts.now in
    let actions = parts.actions.entries in
    let key = c.in-Some.uid.now in
    let plain = c.new-plain.result in
    let among = checking_here (ShadowsNoAction parts) (keys_of actions) _ _ key c.in-Some.ensures.steps c.loop-uid.invariant in
    let there = (action_stands actions plain).0 (sym c.contains_key.ensures ∙ c.if-contains_key.true) in
    let qualified = λ (is : IsUnqualified (uid_of key).ty). false≢true (sym c.if-is_unqualified.false
    ∙ c.is_unqualified.ensures.1 (ap (λ (it : PlainName). it.path) (c.name.ensures.name ∙ c.entity_type.ensures.name) ∙ is)) in
    let shadows : ShadowsAction (uid_of plain) (uid_of key) = (
      ap (λ (it : PlainName). it.path) c.new-plain.ensures.ty ∙ c.in_ok-ty.ensures.path,
      qualified,
      c.new-plain.ensures.eid ∙ (c.in_ok-clone.ensures ∙ c.eid.ensures),
    ) in
    let P : PlainUid → Type 0 = λ other. HasAction (plain_parts parts) (uid_of plain)
    × HasAction (plain_parts parts) other × ShadowsAction (uid_of plain) other in
    inr (λ extensions. subst P (sym c.in_ok-clone-2.ensures.uid) (there, key_with_uid actions key among, shadows))
