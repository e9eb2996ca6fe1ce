use Rattle.std.proofs.Common.{map, ap, ◌∙◌}
use Rattle.cedar_schema_elements.proofs.AncestorLemmas.{below_all, below_more, below_none}
use Rattle.cedar_schema_elements.proofs.ancestors.add_ancestors.Goals as goal

pub loop-lower-init : goal.loop-lower-init
loop-lower-init g c =
    let name = g.V.SchemaNode.key_name in
    below_none g.K.Ord.cmp name c.args.ancestors.now (name c.args.upper.now) (g.V.SchemaNode.below c.args.node.now) _
    (ap (map name) c.into_iter-lower-iterator.ensures.into_iter_gives ∙ c.descendants-lower-items.ensures)

pub loop-lower-preserved : goal.loop-lower-preserved
loop-lower-preserved g c =
    let name = g.V.SchemaNode.key_name in
    below_more g.K.Ord.cmp name c.args.ancestors.now (name c.args.upper.now) (g.V.SchemaNode.below c.args.node.now) _ _ _ _
    (name c.in-Some.lower.now) (ap (map name) c.in-Some.ensures.steps) c.in_ok-add_upper.ensures c.loop-lower.invariant

pub returns : goal.returns
returns g c =
    let name = g.V.SchemaNode.key_name in
    below_all g.K.Ord.cmp name c.args.ancestors.now (name c.args.upper.now) (g.V.SchemaNode.below c.args.node.now) _ _
    (ap (map name) c.in-None.ensures.steps.0) c.loop-lower.invariant
