use Rattle.std.proofs.Common.{sym, subst, ◌∙◌}
use Rattle.std.proofs.lemmas.Bool.{false≢true}
use Rattle.cedar_name_resolution.proofs.ShadowLemmas.{PlainSoFar-listed, PlainSoFar-passed, plain_listed}
use Rattle.cedar_name_resolution.proofs.defs.all_defs.AllDefs.plain_actions.Goals as goal
use Rattle.cedar_name_resolution.specs.Words.{IsUnqualified, uid_of}

pub loop-uid-preserved-in_ok-put : goal.loop-uid-preserved-in_ok-put
loop-uid-preserved-in_ok-put c =
    let plain : IsUnqualified (uid_of c.in-Some.uid.now).ty = subst IsUnqualified (c.name.ensures.name ∙ c.entity_type.ensures.name)
    (c.is_unqualified.ensures.0 c.if-is_unqualified.true) in
    PlainSoFar-listed _ _ c.next.new.self _ _ c.in-Some.uid.now c.in_ok-clone.field-0 c.in_ok-id.id c.in-Some.ensures.steps plain
    c.in_ok-clone.ensures.uid (c.in_ok-id.ensures.ok ∙ (c.as_str.ensures ∙ c.eid.ensures)) c.in_ok-put.ensures c.loop-uid.invariant

pub loop-uid-preserved : goal.loop-uid-preserved
loop-uid-preserved c =
    let qualified : ¬ IsUnqualified (uid_of c.in-Some.uid.now).ty = λ unqualified.
    false≢true (sym c.if-is_unqualified.false
    ∙ c.is_unqualified.ensures.1 (subst IsUnqualified (sym (c.name.ensures.name ∙ c.entity_type.ensures.name)) unqualified)) in
    PlainSoFar-passed _ _ c.next.new.self _ c.in-Some.uid.now c.in-Some.ensures.steps qualified c.loop-uid.invariant

pub returns-clause-all : goal.returns-clause-all
returns-clause-all c = plain_listed _ _ _ c.in-None.ensures.steps.0 c.loop-uid.invariant
