use Rattle.std.proofs.Common.{inl, inr}
use Rattle.std.specs.HashMap.{get}
use Rattle.cedar_graph.proofs.Growing.{edge_sound}
use Rattle.cedar_graph.proofs.KeyedEdges.{begins_at_node}
use Rattle.cedar_graph.proofs.closure.compute_tc_counted.Goals as goal
use Rattle.cedar_graph.specs.Words.{ListHas, one}

-- where numbering is refused, each edge was there
pub returns-in_err-names-clause-sound : goal.returns-in_err-names-clause-sound
returns-in_err-names-clause-sound g c = λ from to edge. one edge

-- where writing is refused, each edge was there or is reached
pub returns-in_err-add_all_edges-clause-sound : goal.returns-in_err-add_all_edges-clause-sound
returns-in_err-add_all_edges-clause-sound g c = λ from to edge. elim (edge_sound g.V.TCNode.has_edge g.V.TCNode.is_alike
    (ListHas g.K.PartialEq.eq c.in_ok-names.field-0.names.items c.in_ok-names.field-0.lists.items from)
    (get g.K.PartialEq.eq c.args.nodes.now from) (get g.K.PartialEq.eq c.add_all_edges.new.nodes from) to
    (c.in_err-add_all_edges.ensures.grows from) edge) [ inl before ↦ one before | inr may ↦ c.in_ok-names.ensures.sound from to may ]

-- each edge was there or is reached
pub returns-clause-sound : goal.returns-clause-sound
returns-clause-sound g c = λ from to edge. elim (edge_sound g.V.TCNode.has_edge g.V.TCNode.is_alike
    (ListHas g.K.PartialEq.eq c.in_ok-names.field-0.names.items c.in_ok-names.field-0.lists.items from)
    (get g.K.PartialEq.eq c.args.nodes.now from) (get g.K.PartialEq.eq c.add_all_edges.new.nodes from) to
    (c.in_ok-add_all_edges.ensures.grows from) edge) [ inl before ↦ one before | inr may ↦ c.in_ok-names.ensures.sound from to may ]

-- each chain is an edge
pub returns-clause-complete : goal.returns-clause-complete
returns-clause-complete g c = λ from to chain.
    c.in_ok-add_all_edges.ensures.complete from to (c.in_ok-names.ensures.complete from to chain)
    (begins_at_node g.K.PartialEq.eq g.V.TCNode.has_edge c.args.nodes.now chain)
