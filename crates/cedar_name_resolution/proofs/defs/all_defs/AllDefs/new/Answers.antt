use Rattle.std.proofs.lemmas.Result.{IfOk-weaker}
use Rattle.cedar_name_resolution.proofs.NamesSoFar.{HoldsJust-through, just_these, names_all, names_next}
use Rattle.cedar_name_resolution.proofs.defs.all_defs.AllDefs.new.Goals as goal
use Rattle.cedar_name_resolution.specs.HeldNames.{held_names, listed_names, names_together}

pub loop-fragment-preserved : goal.loop-fragment-preserved
loop-fragment-preserved g c =
    names_next g.F.DeclaresNames.names (listed_names c.none-names.result) (listed_names c.loop-fragment.names)
    (listed_names c.add_fragment.new.self) c.args.fragments.now c.loop-fragment.fragment-index c.fragment-item.result
    c.loop-fragment-test.true c.fragment-item.is c.loop-fragment.invariant c.in_ok-add_fragment.ensures

pub returns : goal.returns
returns g c =
    let all = names_together g.F.DeclaresNames.names c.args.fragments.now in
    let listed = listed_names c.loop-fragment.names in
    let just = just_these (listed_names c.none-names.result) listed all c.none-names.ensures.common c.none-names.ensures.entities
    c.none-names.ensures.actions
    (names_all g.F.DeclaresNames.names (listed_names c.none-names.result) listed
    c.args.fragments.now c.loop-fragment.fragment-index c.loop-fragment-test.false c.loop-fragment.invariant) in
    IfOk-weaker c.into_defs.result _ _ (λ defs held. HoldsJust-through (held_names defs) listed all held just) c.into_defs.ensures
