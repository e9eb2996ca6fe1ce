use Rattle.cedar_schema_elements.proofs.AncestorLemmas.{ancestors_all, ancestors_more, ancestors_none}
use Rattle.cedar_schema_elements.proofs.ancestors.upper_sets.Goals as goal

pub loop-upper-init : goal.loop-upper-init
loop-upper-init g c =
    ancestors_none g.K.Ord.cmp g.V.SchemaNode.key_name g.V.SchemaNode.below c.args.nodes.now.entries _ c.new-ancestors.result
    c.into_iter-upper-iterator.ensures.into_iter_gives.0 c.new-ancestors.ensures.empty

pub loop-upper-preserved : goal.loop-upper-preserved
loop-upper-preserved g c =
    ancestors_more g.K.Ord.cmp g.V.SchemaNode.key_name g.V.SchemaNode.below c.args.nodes.now.entries _ _ _ _ c.in-Some.upper.now
    c.in-Some.node.now c.in-Some.ensures.steps c.in_ok-add_ancestors.ensures c.loop-upper.invariant

pub returns : goal.returns
returns g c =
    ancestors_all g.K.Ord.cmp g.V.SchemaNode.key_name g.V.SchemaNode.below c.args.nodes.now.entries _ c.loop-upper.ancestors
    c.in-None.ensures.steps.0 c.loop-upper.invariant
