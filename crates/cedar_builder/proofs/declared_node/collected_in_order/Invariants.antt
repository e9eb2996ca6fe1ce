use Rattle.std.proofs.Common.{map}
use Rattle.std.specs.List.{zip}
use Rattle.std.specs.Vec.Iter.{into_iter_items}
use Rattle.cedar_builder.proofs.NodesCollected.{CollectedSoFar}
use Rattle.cedar_builder.proofs.NodesPut.{AreColumns}
use Rattle.cedar_builder.proofs.declared_node.collected_in_order.Given as goal
use Rattle.cedar_builder.specs.DeclaredNodes.{named}

abbrev pub invariant-loop-item : goal.invariant-loop-item
invariant-loop-item g l =
    let entries = map (named g.V.SchemaNode.key_name g.V.DeclaredNode.body_of) in
    CollectedSoFar g.V.DeclaredNode.is_definition g.V.SchemaNode.IsExternal g.V.SchemaNode.node_name
    (g.V.DeclaredNode.Gives l.scope) g.K.PartialEq.eq
    g.V.SchemaNode.key_name (g.V.DeclaredNode.IsSound l.scope) (entries l.fn.declared.items) (zip l.keys.items l.nodes.items)
    (entries (into_iter_items l.item-iterator))
    × AreColumns g.K.Ord.cmp g.V.SchemaNode.IsLocatedAs l.keys.items l.nodes.items (into_iter_items l.item-iterator)
