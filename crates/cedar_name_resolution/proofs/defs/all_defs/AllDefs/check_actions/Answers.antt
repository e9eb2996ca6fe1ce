use Rattle.std.proofs.Common.{sym, subst, ◌∙◌, inr, Contains}
use Rattle.std.proofs.lemmas.Bool.{false≢true}
use Rattle.cedar_name_resolution.proofs.ShadowLemmas.{ids_of, PassedSoFar-more, passed_all, passed_next, looked_up, not_looked_up, unqualified_is_not_shadowed, not_shadowed}
use Rattle.cedar_name_resolution.proofs.defs.all_defs.AllDefs.check_actions.Goals as goal
use Rattle.cedar_name_resolution.specs.Words.{IsPlainAction, IsUnqualified, PlainUid, ShadowsAction, Text, held_names, uid_of}

-- where all actions have unqualified types none is shadowed
pub returns-then-are_actions_unqualified-clause-none : goal.returns-then-are_actions_unqualified-clause-none
returns-then-are_actions_unqualified-clause-none c = λ plain qualified here there.
    unqualified_is_not_shadowed (held_names c.args.self.now).actions qualified
    (c.are_actions_unqualified.ensures c.if-are_actions_unqualified.true qualified there) plain here

-- an action of an unqualified type is shadowed by none
pub loop-uid-preserved-then-is_unqualified : goal.loop-uid-preserved-then-is_unqualified
loop-uid-preserved-then-is_unqualified c =
    let plain : IsUnqualified (uid_of c.in-Some.uid.now).ty = subst IsUnqualified (c.name.ensures.name ∙ c.entity_type.ensures.name)
    (c.is_unqualified.ensures.0 c.if-is_unqualified.true) in
    PassedSoFar-more _ _ _ _ c.next.new.self c.in-Some.uid.now c.in-Some.ensures.steps
    (unqualified_is_not_shadowed (held_names c.args.self.now).actions (uid_of c.in-Some.uid.now) plain) c.loop-uid.invariant

-- the plain action of the same id shadows the action
pub returns-in-Some-get-clause-fault : goal.returns-in-Some-get-clause-fault
returns-in-Some-get-clause-fault c =
    let actions = (held_names c.args.self.now).actions in
    let uid = uid_of c.in-Some.uid.now in
    let other = uid_of c.in-Some-get.other.now in
    let Shadows : PlainUid → PlainUid → Type 0 = λ plain qualified. Contains actions plain × Contains actions qualified × ShadowsAction plain qualified in
    let found : IsPlainAction actions c.as_str.result.now other =
    looked_up actions c.in_ok-plain.plain.entries c.as_str.result.now c.in-Some-get.other.now c.in_ok-plain.ensures.each
    (sym c.in-Some-get.ensures.value) in
    let qualified : ¬ IsUnqualified uid.ty = λ unqualified. false≢true (sym c.if-is_unqualified.false
    ∙ c.is_unqualified.ensures.1 (subst IsUnqualified (sym (c.name.ensures.name ∙ c.entity_type.ensures.name)) unqualified)) in
    let among : Contains actions uid = passed_next _ _ c.args.self.now.action_defs.keys c.loop-uid.uid-iterator c.next.new.self c.in-Some.uid.now
    c.in-Some.ensures.steps c.loop-uid.invariant in
    let pair : Shadows other uid = (found.0, among, (found.1, qualified, found.2 ∙ (c.as_str.ensures ∙ c.eid.ensures))) in
    let IsShadowed : PlainUid → Type 0 = λ each. Shadows other each in
    let Shadowing : PlainUid → Type 0 = λ each. Shadows each (uid_of c.in_ok-clone-in-Some-get-2.field-0) in
    inr (subst Shadowing (sym c.in_ok-clone-in-Some-get.ensures.uid) (subst IsShadowed (sym c.in_ok-clone-in-Some-get-2.ensures.uid) pair))

-- an action whose id no plain action has is shadowed by none
pub loop-uid-preserved : goal.loop-uid-preserved
loop-uid-preserved c =
    let actions = (held_names c.args.self.now).actions in
    let uid = uid_of c.in-Some.uid.now in
    let Lacks : Text → Type 0 = λ text. ¬ Contains (ids_of c.in_ok-plain.plain.entries) text in
    let absent : Lacks uid.eid = rw (c.as_str.ensures, c.eid.ensures) at
    (not_looked_up c.in_ok-plain.plain.entries c.as_str.result.now (sym c.in-None-get.ensures.value)) in
    PassedSoFar-more _ _ _ _ c.next.new.self c.in-Some.uid.now c.in-Some.ensures.steps
    (not_shadowed actions c.in_ok-plain.plain.entries uid c.in_ok-plain.ensures.all absent) c.loop-uid.invariant

-- after the last action none is shadowed
pub returns-clause-none : goal.returns-clause-none
returns-clause-none c =
    λ plain qualified here there. passed_all _ _ _ _ c.in-None.ensures.steps.0 c.loop-uid.invariant qualified there plain here
