use Rattle.std.proofs.Common.{sym, subst, inr}
use Rattle.cedar_name_resolution.proofs.ShadowLemmas.{PassedSoFar-more, passed_all, passed_next}
use Rattle.cedar_name_resolution.proofs.defs.all_defs.AllDefs.check_types.Goals as goal
use Rattle.cedar_name_resolution.specs.Words.{PlainName, ShadowsType, name_of}

pub returns-in-Some-found-clause-fault : goal.returns-in-Some-found-clause-fault
returns-in-Some-found-clause-fault c =
    let pair = rw c.in-Some-found.is at c.in_ok-found.ensures in
    let IsShadowed : PlainName → Type 0 = ShadowsType (name_of c.in-Some-found.plain) in
    let among = c.requires (name_of c.in-Some.name.now)
    (passed_next _ _ c.args.names.now.keys c.loop-name.name-iterator c.next.new.self c.in-Some.name.now c.in-Some.ensures.steps
    c.loop-name.invariant) in
    inr (pair.0, rw c.in_ok-clone-in-Some-found.ensures.name among, subst IsShadowed (sym c.in_ok-clone-in-Some-found.ensures.name) pair.1)

pub loop-name-preserved : goal.loop-name-preserved
loop-name-preserved c =
    PassedSoFar-more _ _ _ _ c.next.new.self c.in-Some.name.now c.in-Some.ensures.steps (rw c.in-None-found.is at c.in_ok-found.ensures)
    c.loop-name.invariant

pub returns-clause-none : goal.returns-clause-none
returns-clause-none c =
    λ plain qualified here there. passed_all _ _ _ _ c.in-None.ensures.steps.0 c.loop-name.invariant qualified there plain here
