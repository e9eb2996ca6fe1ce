use Rattle.std.proofs.Common.{◌≡◌, map, Contains, ap, arith}
use Rattle.std.proofs.lemmas.List.{nil_from_length}
use Rattle.std.specs.List.{flat_map}
use Rattle.cedar_ast.proofs.Basics.{Contains-image}
use Rattle.cedar_fragments.proofs.namespace.qualify_actions.qualify_parents.Goals as goal
use Rattle.cedar_fragments.specs.Words.{EntityType, fragment_parent, held_names, namespace_name, no_locs, parent_locs}
use Rattle.cedar_name_resolution.proofs.ExitLemmas.{exit_holds}
use Rattle.cedar_name_resolution.proofs.OneMore.{flat_one_more}
use Rattle.cedar_name_resolution.proofs.Pairwise.{turn_none, turn_more, turn_all, turn_next}
use Rattle.cedar_name_resolution.proofs.RefusedLemmas.{unresolvable_wider}

-- at first no parent is resolved
pub loop-parent-init : goal.loop-parent-init
loop-parent-init g c = (
  turn_none _ _ _ _ _ _ c.into_iter-parent-iterator.ensures.into_iter_gives.0 c.in_ok-qualified.ensures.items,
  ap (flat_map (parent_locs EntityType no_locs)) c.in_ok-qualified.ensures.items,
)

-- a parent that resolves to nothing is one of all
pub returns-in_err-qualify_parent-clause-fault : goal.returns-in_err-qualify_parent-clause-fault
returns-in_err-qualify_parent-clause-fault g c =
    let names = held_names c.args.all_defs.now in
    let shown = fragment_parent g.row.N.Denot (g.N.WrittenName.refer (namespace_name c.args.namespace)) in
    let all = map shown c.args.parents.items in
    let among = Contains-image shown c.args.parents.items c.in-Some.parent
    (turn_next _ _ _ _ _ _ _ c.in-Some.parent c.in-Some.ensures.steps.0 c.loop-parent.invariant.0) in
    exit_holds _ _ _ c.from_residual-in_err-qualify_parent.ensures.1
    (unresolvable_wider names (λ reference. ⊥) (λ reference. ⊥) (λ it. shown c.in-Some.parent ≡ it) (Contains all) (λ reference. ⊥) (λ reference. ⊥)
    (λ reference none. none) (λ parent is. rw is at among) (λ reference none. none) _ c.in_err-qualify_parent.ensures.fault)

-- one more parent is resolved
pub loop-parent-preserved : goal.loop-parent-preserved
loop-parent-preserved g c = (
  turn_more _ _ _ _ _ _ _ _ c.in-Some.parent c.in_ok-qualify_parent.field-0 c.in-Some.ensures.steps.0 c.in_ok-push.ensures.items
      c.in_ok-qualify_parent.ensures.resolved c.loop-parent.invariant.0,
  flat_one_more (parent_locs EntityType no_locs) (parent_locs g.row.N.Denot no_locs) c.loop-parent.qualified.items _
      c.loop-parent.yielded c.in_ok-qualify_parent.field-0 c.in-Some.parent c.in_ok-push.ensures.items c.loop-parent.invariant.1
      c.in_ok-qualify_parent.ensures.locs,
)

-- at the end all are
pub returns-clause-resolved : goal.returns-clause-resolved
returns-clause-resolved g c =
    turn_all _ _ _ _ _ _ (nil_from_length _ (omega (arith, c.in-None.ensures.steps.0, c.loop-parent.parent-iterator.rest.ok.0)))
    c.loop-parent.invariant.0
