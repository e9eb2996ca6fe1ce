use Rattle.std.proofs.Common.{◌≡◌, ◌+◌, ◌++◌, [], ◌∷◌, map, take, inr}
use Rattle.std.proofs.lemmas.List.{map-append, take_all}
use Rattle.cedar_ast.proofs.Basics.{Contains-image}
use Rattle.cedar_builder.proofs.ActionsElaborated.{named_by}
use Rattle.cedar_builder.proofs.NodeEdges.{item_among, map_item}
use Rattle.cedar_builder.proofs.RequestTypes.{named_more, placed_more}
use Rattle.cedar_builder.proofs.request_types.declared_types.Goals as goal
use Rattle.cedar_builder.specs.Words.{Entity, held_names, names_in, namespace_name, set_names, type_name}
use Rattle.cedar_name_resolution.proofs.ExitLemmas.{exit_holds}

-- the name at fault is one of all
pub returns-in_err-declared_type-clause-fault : goal.returns-in_err-declared_type-clause-fault
returns-in_err-declared_type-clause-fault g c =
    let refer = g.N.WrittenName.refer (namespace_name c.args.namespace) Entity in
    let names = c.args.names.now in
    let name = c.name-item.result in
    exit_holds _ _ _ c.from_residual-in_err-declared_type.ensures.1
    (inr (
      refer name,
      Contains-image refer names name
          (item_among names c.loop-name.name-index name c.loop-name-test.true c.name-item.is),
      c.in_err-declared_type.ensures.fault,
    ))

-- one more name is that of a declared entity type
pub loop-name-preserved : goal.loop-name-preserved
loop-name-preserved g c =
    let refer = g.N.WrittenName.refer (namespace_name c.args.namespace) Entity in
    let held = held_names c.args.defs.now in
    let names = c.args.names.now in
    let name = c.name-item.result in
    let index = c.loop-name.name-index in
    let so_far = map refer (take index names) in
    let types = names_in c.args.entity_types.now in
    let more : so_far ++ refer name ∷ [] ≡ map refer (take (index + 1) names) =
    map_item refer names index name c.loop-name-test.true c.name-item.is in
    let found = c.in_ok-declared_type.field-0 in
    let old = c.loop-name.types.items in
    let resolves = c.in_ok-declared_type.ensures.name.1 in (
      rw (← more, c.in_ok-push.ensures.items, map-append type_name old (found ∷ []))
          (named_more held so_far (refer name) (type_name found) resolves (map type_name old) c.loop-name.invariant.0),
      rw (← more)
          (placed_more held so_far (refer name) (type_name found) resolves types c.loop-name.invariant.1 c.in_ok-declared_type.ensures.declared),
    )

-- at the end all are
pub returns-clause-names : goal.returns-clause-names
returns-clause-names g c =
    let refer = g.N.WrittenName.refer (namespace_name c.args.namespace) Entity in
    named_by (held_names c.args.defs.now) (map refer c.args.names.now) c.loop-name.types.items (set_names c.of.result)
    (rw (take_all c.loop-name.name-index c.args.names.now c.loop-name-test.false) at c.loop-name.invariant.0) c.of.ensures

-- and each is declared
pub returns-clause-declared : goal.returns-clause-declared
returns-clause-declared g c =
    rw (take_all c.loop-name.name-index c.args.names.now c.loop-name-test.false) at c.loop-name.invariant.1
