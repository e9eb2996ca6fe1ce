use Rattle.std.proofs.Common.{map, Contains, ap, sym, arith}
use Rattle.std.proofs.lemmas.List.{nil_from_length}
use Rattle.cedar_ast.proofs.Basics.{Contains-image}
use Rattle.cedar_fragments.proofs.namespace.qualify_types.qualify_entity_types.Goals as goal
use Rattle.cedar_fragments.specs.Words.{Entity, held_names, name_of, namespace_name, reference_to_one}
use Rattle.cedar_name_resolution.proofs.ExitLemmas.{exit_holds}
use Rattle.cedar_name_resolution.proofs.Pairwise.{turn_none, turn_more, turn_all, turn_next}
use Rattle.cedar_name_resolution.proofs.RefusedLemmas.{refused_one}

pub loop-name-init : goal.loop-name-init
loop-name-init g c = turn_none _ _ _ _ _ _ c.into_iter-name-iterator.ensures.into_iter_gives.0 c.in_ok-qualified.ensures.items

pub returns-in_err-resolve_within-clause-refused : goal.returns-in_err-resolve_within-clause-refused
returns-in_err-resolve_within-clause-refused g c =
    let refer = g.N.WrittenName.refer (namespace_name c.args.namespace) in
    let names = held_names c.args.all_defs.now in
    let among = turn_next _ _ _ _ _ _ _ c.in-Some.name c.in-Some.ensures.steps.0 c.loop-name.invariant in
    exit_holds _ _ _ c.from_residual-in_err-resolve_within.ensures.1
    (refused_one names (Contains (map (refer Entity) c.args.names.items)) (refer Entity c.in-Some.name)
    (Contains-image (refer Entity) c.args.names.items c.in-Some.name among) _ c.in_err-resolve_within.ensures.refused)

pub loop-name-preserved : goal.loop-name-preserved
loop-name-preserved g c =
    let same = g.N.WrittenName.keeps_kind (namespace_name c.args.namespace) Entity c.in-Some.name in
    let found = name_of c.in_ok-resolve_within.field-0 in
    turn_more _ _ _ _ _ _ _ _ c.in-Some.name c.in_ok-resolve_within.field-0 c.in-Some.ensures.steps.0 c.in_ok-push.ensures.items
    (found, c.in_ok-resolve_within.ensures.resolved, ap (λ each. reference_to_one each found) (sym same)) c.loop-name.invariant

pub returns-clause-resolved : goal.returns-clause-resolved
returns-clause-resolved g c =
    turn_all _ _ _ _ _ _ (nil_from_length _ (omega (arith, c.in-None.ensures.steps.0, c.loop-name.name-iterator.rest.ok.0))) c.loop-name.invariant
