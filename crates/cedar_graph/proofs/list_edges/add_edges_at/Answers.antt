use Rattle.std.proofs.Common.{Some, ◌≡◌, sym, ap, is_some}
use Rattle.std.specs.HashMap.{get}
use Rattle.cedar_graph.proofs.Growing.{updated_grows}
use Rattle.cedar_graph.proofs.list_edges.add_edges_at.Goals as goal
use Rattle.cedar_graph.specs.Numbering.{StandsIn}

pub returns-in-Some-clause-grows : goal.returns-in-Some-clause-grows
returns-in-Some-clause-grows g c =
    let eq = g.K.PartialEq.eq in
    let node = c.add_edges.new.node in
    let found : get eq c.args.nodes.now c.args.name.now ≡ Some c.in-Some.node.now = sym c.in-Some.ensures.value in
    updated_grows g.met.K.Eq.laws g.V.TCNode.has_edge g.V.TCNode.is_alike g.met.V.TCNode.alike_itself c.args.nodes.now
    (c.get_mut.follows.lender node) c.args.name.now c.in-Some.node.now node
    (StandsIn eq c.args.names.now.items c.args.numbers.now) found ((c.get_mut.follows.holds node).3 (ap is_some found)).0
    c.add_edges.ensures.grows
