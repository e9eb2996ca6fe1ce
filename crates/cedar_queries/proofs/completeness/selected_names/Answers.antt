use Rattle.std.proofs.Common.{◌++◌, ap, map, ◌∙◌}
use Rattle.cedar_queries.proofs.BorrowedLemmas.{borrowed, borrowed_all, borrowed_push}
use Rattle.cedar_queries.proofs.SelectedLemmas.{entries_where-values}
use Rattle.cedar_queries.proofs.completeness.selected_names.Goals as goal
use Rattle.cedar_queries.specs.Selected.{values_where}

-- at first all nodes are left
pub loop-node-init : goal.loop-node-init
loop-node-init g c =
    let name = g.V.SchemaNode.node_name in
    ap (λ items. map (borrowed g.V.SchemaNode.key_name) items ++ map name (map (λ entry. entry.1) c.into_iter-node-iterator.result)) c.new-names.ensures.items
    ∙ ap (λ left. map name (map (λ entry. entry.1) left)) (c.into_iter-node-iterator.ensures.into_iter_gives ∙ c.new-node-items.ensures)
    ∙ ap (map name) (entries_where-values (g.T.Test.holds c.args.test) c.args.nodes.now.entries)

-- each gives its name
pub loop-node-preserved : goal.loop-node-preserved
loop-node-preserved g c =
    borrowed_push g.V.SchemaNode.key_name g.V.SchemaNode.node_name
    (map g.V.SchemaNode.node_name (values_where (g.T.Test.holds c.args.test) c.args.nodes.now.entries)) c.loop-node.names.items
    (map (λ entry. entry.1) c.loop-node.node-iterator) c.loop-node.invariant c.push.new.self.items c.name.result c.in-Some.node.now
    (map (λ entry. entry.1) c.next.new.self) c.in_ok-push.ensures.items (ap (map (λ entry. entry.1)) c.in-Some.ensures.steps) c.name.ensures.name

-- at the end none is left
pub returns : goal.returns
returns g c =
    borrowed_all g.V.SchemaNode.key_name g.V.SchemaNode.node_name
    (map g.V.SchemaNode.node_name (values_where (g.T.Test.holds c.args.test) c.args.nodes.now.entries)) c.loop-node.names.items
    (map (λ entry. entry.1) c.loop-node.node-iterator) c.loop-node.invariant (ap (map (λ entry. entry.1)) c.in-None.ensures.steps.0)
