use Rattle.std.proofs.Common.{ap, arith, map}
use Rattle.std.proofs.lemmas.List.{nil_from_length}
use Rattle.std.specs.List.{flat_map}
use Rattle.cedar_ast.proofs.TurnLemmas.{turn_weaker}
use Rattle.cedar_fragments.proofs.FragmentLemmas.{flat_map-included}
use Rattle.cedar_fragments.proofs.ResolvedBags.{ResolvesUnreservedBag, resolved_together, unresolvable_included}
use Rattle.cedar_fragments.proofs.namespace.qualify_definitions.ValidatorSchemaFragment+N+N.qualify_within.Goals as goal
use Rattle.cedar_fragments.specs.Words.{EntityType, InternalName, ResolvesBag, definition_common_names, definition_locs, held_names, located_namespace, no_locs, resolved_definition, written_definition, written_fragment, written_pairwise}
use Rattle.cedar_name_resolution.proofs.ExitLemmas.{exit_holds}
use Rattle.cedar_name_resolution.proofs.OneMore.{flat_one_more, one_more}
use Rattle.cedar_name_resolution.proofs.Pairwise.{turn_none, turn_more, turn_all, turn_next}

-- at first no definition is resolved
pub loop-definition-init : goal.loop-definition-init
loop-definition-init g c = (
  turn_none _ _ _ _ _ _ c.into_iter-definition-iterator.ensures.into_iter_gives.0 c.in_ok-definitions.ensures.items,
  ap (map (located_namespace InternalName EntityType)) c.in_ok-definitions.ensures.items,
  ap (map (definition_locs InternalName no_locs EntityType no_locs)) c.in_ok-definitions.ensures.items,
  ap (flat_map (definition_common_names InternalName EntityType)) c.in_ok-definitions.ensures.items,
)

-- the fault of a definition is one of the fragment
pub returns-in_err-qualify_within-clause-fault : goal.returns-in_err-qualify_within-clause-fault
returns-in_err-qualify_within-clause-fault g c =
    let names = held_names c.args.all_defs.now in
    let items = c.args.self.definitions.items in
    let among = turn_next _ _ _ _ _ _ _ c.in-Some.definition c.in-Some.ensures.steps.0 c.loop-definition.invariant.0 in
    exit_holds _ _ _ c.from_residual-in_err-qualify_within.ensures.1
    (unresolvable_included names (written_definition g.row.N.Denot g.N.WrittenName.refer c.in-Some.definition) (written_fragment g.row.N.Denot g.N.WrittenName.refer c.args.self)
    (flat_map-included (written_definition g.row.N.Denot g.N.WrittenName.refer) items c.in-Some.definition among) _ c.in_err-qualify_within.ensures.fault)

-- one more definition is resolved and keeps its name and locations
pub loop-definition-preserved : goal.loop-definition-preserved
loop-definition-preserved g c =
    let qualified = c.in_ok-qualify_within in (
      turn_more _ _ _ _ _ _ _ _ c.in-Some.definition qualified.field-0 c.in-Some.ensures.steps.0 c.in_ok-push.ensures.items
          (qualified.ensures.resolved, qualified.ensures.unreserved) c.loop-definition.invariant.0,
      one_more _ _ c.loop-definition.definitions.items _ c.loop-definition.yielded qualified.field-0 c.in-Some.definition
          c.in_ok-push.ensures.items c.loop-definition.invariant.1
          (λ i. record { name = qualified.ensures.name i; def_loc = qualified.ensures.loc i }),
      one_more (definition_locs InternalName no_locs EntityType no_locs) (definition_locs g.row.N.Denot no_locs g.row.N.Denot no_locs)
          c.loop-definition.definitions.items _ c.loop-definition.yielded qualified.field-0 c.in-Some.definition
          c.in_ok-push.ensures.items c.loop-definition.invariant.2 qualified.ensures.locs,
      flat_one_more _ _ c.loop-definition.definitions.items _ c.loop-definition.yielded qualified.field-0 c.in-Some.definition
          c.in_ok-push.ensures.items c.loop-definition.invariant.3 qualified.ensures.common_types,
    )

-- at the end all definitions are resolved
pub returns-clause-resolved : goal.returns-clause-resolved
returns-clause-resolved g c =
    (resolved_together (held_names c.args.all_defs.now) (written_definition g.row.N.Denot g.N.WrittenName.refer) resolved_definition c.args.self.definitions.items
    c.loop-definition.definitions.items
    (turn_all _ _ _ _ _ _ (nil_from_length _ (omega (arith, c.in-None.ensures.steps.0, c.loop-definition.definition-iterator.rest.ok.0)))
    c.loop-definition.invariant.0)).0

-- also definition by definition
pub returns-clause-pairwise : goal.returns-clause-pairwise
returns-clause-pairwise g c =
    let names = held_names c.args.all_defs.now in
    turn_weaker (ResolvesUnreservedBag names) (ResolvesBag names) (λ bag resolved both. both.0) (written_pairwise g.row.N.Denot g.N.WrittenName.refer c.args.self)
    (map resolved_definition c.loop-definition.definitions.items)
    (turn_all _ _ _ _ _ _ (nil_from_length _ (omega (arith, c.in-None.ensures.steps.0, c.loop-definition.definition-iterator.rest.ok.0)))
    c.loop-definition.invariant.0)

-- and refer to nothing that is reserved
pub returns-clause-unreserved : goal.returns-clause-unreserved
returns-clause-unreserved g c =
    (resolved_together (held_names c.args.all_defs.now) (written_definition g.row.N.Denot g.N.WrittenName.refer) resolved_definition c.args.self.definitions.items
    c.loop-definition.definitions.items
    (turn_all _ _ _ _ _ _ (nil_from_length _ (omega (arith, c.in-None.ensures.steps.0, c.loop-definition.definition-iterator.rest.ok.0)))
    c.loop-definition.invariant.0)).1
