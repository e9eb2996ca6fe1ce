use Rattle.std.proofs.Common.{◌≡◌, ◌++◌, map}
use Rattle.cedar_queries.proofs.BorrowedLemmas.{borrowed}
use Rattle.cedar_queries.proofs.completeness.selected_names.Given as goal
use Rattle.cedar_queries.specs.Selected.{values_where}

abbrev pub invariant-loop-node : goal.invariant-loop-node
invariant-loop-node g l =
    map (borrowed g.V.SchemaNode.key_name) l.names.items ++ map g.V.SchemaNode.node_name (map (λ entry. entry.1) l.node-iterator)
    ≡ map g.V.SchemaNode.node_name (values_where (g.T.Test.holds l.fn.test) l.nodes.entries)
