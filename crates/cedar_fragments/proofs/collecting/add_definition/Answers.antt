use Rattle.std.proofs.Common.{◌≡◌, ◌∙◌}
use Rattle.std.specs.Option.{option_map}
use Rattle.cedar_fragments.proofs.CollectedTogether.{collect_parts}
use Rattle.cedar_fragments.proofs.collecting.add_definition.Goals as goal
use Rattle.cedar_fragments.specs.Words.{definition_namespace, name_of}

pub returns : goal.returns
returns g c =
    let N = g.row.N.Denot in
    let refer = g.N.WrittenName.refer in
    let namespace = definition_namespace N N c.args.definition in
    let same : option_map name_of c.in_ok-namespace.namespace ≡ namespace = c.in_ok-namespace.ensures ∙ c.namespace.ensures.name in
    collect_parts N refer _ _ _ namespace c.into_parts-common.result.0 c.into_parts-common.result.1 c.into_parts-common.result.2
    (c.into_parts-common.ensures (refer namespace) (refer namespace))
    (rw same at c.in_ok-common_types.ensures) (rw same at c.in_ok-entity_types.ensures) (rw same at c.in_ok-actions.ensures)
