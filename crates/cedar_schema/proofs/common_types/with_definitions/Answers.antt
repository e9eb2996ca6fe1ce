use Rattle.std.proofs.Common.{◌++◌, List, ap, map, sym, ◌∙◌}
use Rattle.cedar_schema.proofs.InOrder.{flat_map_next, flat_map_whole}
use Rattle.cedar_schema.proofs.ShownLemmas.{to_show-flat}
use Rattle.cedar_schema.proofs.common_types.with_definitions.Goals as goal
use Rattle.cedar_schema.specs.Words.{ShownCommonType, ValidatorNamespaceDef, common_types_to_show, definition_common_types, shown_common_type}

pub loop-definition-preserved : goal.loop-definition-preserved
loop-definition-preserved g c =
    let f : ValidatorNamespaceDef g.row.N.Denot g.row.A.Denot → List ShownCommonType = λ definition.
    common_types_to_show g.row.N.Denot (definition_common_types g.row.N.Denot g.row.A.Denot definition) in
    let before = map shown_common_type c.args.shown.items in
    c.in_ok-shown.ensures
    ∙ ((λ i. c.loop-definition.invariant i ++ common_types_to_show g.row.N.Denot (c.common_types.ensures i))
    ∙ flat_map_next f before c.args.definitions.now c.loop-definition.definition-index c.definition-item.result
    c.loop-definition-test.true c.definition-item.is)

pub returns : goal.returns
returns g c =
    let f : ValidatorNamespaceDef g.row.N.Denot g.row.A.Denot → List ShownCommonType = λ definition.
    common_types_to_show g.row.N.Denot (definition_common_types g.row.N.Denot g.row.A.Denot definition) in
    let before = map shown_common_type c.args.shown.items in
    c.loop-definition.invariant
    ∙ (flat_map_whole f before c.args.definitions.now c.loop-definition.definition-index c.loop-definition-test.false
    ∙ ap (λ more. before ++ more)
    (sym (to_show-flat g.row.N.Denot (definition_common_types g.row.N.Denot g.row.A.Denot) c.args.definitions.now)))
