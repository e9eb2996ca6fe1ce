use Rattle.std.proofs.Common.{map, Contains, arith}
use Rattle.std.proofs.lemmas.List.{nil_from_length}
use Rattle.cedar_ast.proofs.Basics.{Contains-image}
use Rattle.cedar_name_resolution.proofs.ExitLemmas.{exit_holds}
use Rattle.cedar_name_resolution.proofs.Pairwise.{turn_none, turn_more, turn_all, turn_next}
use Rattle.cedar_name_resolution.proofs.RefusedLemmas.{refused_one}
use Rattle.cedar_name_resolution.proofs.defs.resolve.resolve_all.Goals as goal
use Rattle.cedar_name_resolution.specs.HeldNames.{held_names}

pub loop-name-init : goal.loop-name-init
loop-name-init g c = turn_none _ _ _ _ _ _ c.into_iter-name-iterator.ensures.into_iter_gives.0 c.new-resolved.ensures.items

pub returns-in_err-resolve-clause-refused : goal.returns-in_err-resolve-clause-refused
returns-in_err-resolve-clause-refused g c =
    let names = held_names c.args.all_defs.now in
    let refer = g.N.ResolveName.reference in
    let among = turn_next _ _ _ _ _ _ _ c.in-Some.name c.in-Some.ensures.steps.0 c.loop-name.invariant in
    exit_holds _ _ _ c.from_residual.ensures.1
    (refused_one names (Contains (map refer c.args.names.items)) (refer c.in-Some.name)
    (Contains-image refer c.args.names.items c.in-Some.name among) _ c.in_err-resolve.ensures.refused)

pub loop-name-preserved : goal.loop-name-preserved
loop-name-preserved g c =
    turn_more _ _ _ _ _ _ _ _ c.in-Some.name c.in_ok-resolve.field-0 c.in-Some.ensures.steps.0 c.in_ok-push.ensures.items
    c.in_ok-resolve.ensures.resolved c.loop-name.invariant

pub returns-clause-resolved : goal.returns-clause-resolved
returns-clause-resolved g c =
    turn_all _ _ _ _ _ _ (nil_from_length _ (omega (arith, c.in-None.ensures.steps.0, c.loop-name.name-iterator.rest.ok.0))) c.loop-name.invariant
