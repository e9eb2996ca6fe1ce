use Rattle.std.proofs.Common.{subst, ◌∙◌}
use Rattle.cedar_name_resolution.proofs.ShadowLemmas.{PassedSoFar-more, passed_all}
use Rattle.cedar_name_resolution.proofs.defs.all_defs.AllDefs.are_actions_unqualified.Goals as goal
use Rattle.cedar_name_resolution.specs.Words.{IsUnqualified, uid_of}

-- one more action has an unqualified type
pub loop-uid-preserved : goal.loop-uid-preserved
loop-uid-preserved c =
    let plain : IsUnqualified (uid_of c.in-Some.uid.now).ty = subst IsUnqualified (c.name.ensures.name ∙ c.entity_type.ensures.name)
    (c.is_unqualified.ensures.0 c.if-not-is_unqualified.false) in
    PassedSoFar-more _ _ _ _ c.next.new.self c.in-Some.uid.now c.in-Some.ensures.steps plain c.loop-uid.invariant

-- after the last action all have
pub returns : goal.returns
returns c = λ all uid here. passed_all _ _ _ _ c.in-None.ensures.steps.0 c.loop-uid.invariant uid here
