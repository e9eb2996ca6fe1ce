use Rattle.std.proofs.lemmas.Result.{IfOk-weaker}
use Rattle.cedar_name_resolution.proofs.NamesSoFar.{HoldsJust-through, just_these}
use Rattle.cedar_name_resolution.proofs.defs.all_defs.AllDefs.single_fragment.Goals as goal
use Rattle.cedar_name_resolution.specs.HeldNames.{held_names, listed_names}

pub returns : goal.returns
returns g c =
    let all = g.F.DeclaresNames.names c.args.fragment.now in
    let listed = listed_names c.add_fragment.new.self in
    let just = just_these (listed_names c.none-names.result) listed all c.none-names.ensures.common c.none-names.ensures.entities
    c.none-names.ensures.actions c.in_ok-add_fragment.ensures in
    IfOk-weaker c.into_defs.result _ _ (λ defs held. HoldsJust-through (held_names defs) listed all held just) c.into_defs.ensures
