use Rattle.std.proofs.Common.{Contains, sym}
use Rattle.std.proofs.lemmas.Result.{IfErr-weaker, IfOk-weaker, on_ok_weaker}
use Rattle.cedar_ast.proofs.TurnLemmas.{turn_weaker}
use Rattle.cedar_validation.proofs.Graphs.{Graph, closed_by_name, none_on_cycle, refused_by_name}
use Rattle.cedar_validation.proofs.Pairwise.{pairwise_back}
use Rattle.cedar_validation.proofs.closing.closed_nodes.Given.{Over}
use Rattle.cedar_validation.proofs.closing.closed_nodes.Goals as goal
use Rattle.cedar_validation.specs.Words.{HasEntry, HoldsPairwise, IsClosedOf, IsClosedTo, IsListFault, IsTableFault, StepsTo}

-- the graph of the nodes
abbrev graph : (g : Over) → Graph g.row.K.Denot g.row.V.Denot g.V.SchemaNode.Name
graph g = record {
  eq = g.K.PartialEq.eq;
  under = g.V.SchemaNode.key_name;
  below = g.V.SchemaNode.below;
  has_edge = g.V.TCNode.has_edge;
  is_alike = g.V.TCNode.is_alike;
  laws = g.met.K.Eq.laws;
  same = g.met.V.SchemaNode.same_key;
  edge = g.met.V.SchemaNode.edge_below;
  key_below = g.met.V.SchemaNode.below_key;
}

pub returns-clause-fault : goal.returns-clause-fault
returns-clause-fault g c =
    let entries = c.args.nodes.entries in
    IfErr-weaker c.close_table.result
    (IsTableFault (StepsTo (graph g).eq (graph g).has_edge entries) (HasEntry (graph g).eq entries) c.args.enforce_dag)
    (IsListFault (graph g).under (graph g).below entries c.args.enforce_dag)
    (refused_by_name (graph g) entries c.args.enforce_dag) c.close_table.ensures.fault

pub returns-clause-closed : goal.returns-clause-closed
returns-clause-closed g c =
    let entries = c.args.nodes.entries in
    let Steps = StepsTo (graph g).eq (graph g).has_edge entries in
    let Closed = IsClosedTo (graph g).has_edge (graph g).is_alike Steps in
    let Of = IsClosedOf (graph g).under (graph g).below (graph g).is_alike entries in
    IfOk-weaker c.close_table.result (λ closed. HoldsPairwise Closed entries closed.entries)
    (λ closed. HoldsPairwise Of entries closed.entries)
    (λ closed. turn_weaker Closed Of (closed_by_name (graph g) entries) entries closed.entries) c.close_table.ensures.closed

pub returns-clause-acyclic : goal.returns-clause-acyclic
returns-clause-acyclic g c =
    on_ok_weaker c.close_table.result (λ none enforced. none_on_cycle (graph g) c.args.nodes.entries (none enforced))
    c.close_table.ensures.acyclic

pub returns-clause-located : goal.returns-clause-located
returns-clause-located g c =
    let entries = c.args.nodes.entries in
    let Closed = IsClosedTo (graph g).has_edge (graph g).is_alike (StepsTo (graph g).eq (graph g).has_edge entries) in
    IfOk-weaker c.close_table.result (λ closed. HoldsPairwise Closed entries closed.entries)
    (λ closed. ((it : _) → Contains entries it → g.V.SchemaNode.IsLocatedAs it.0 it.1)
    → (it : _) → Contains closed.entries it → g.V.SchemaNode.IsLocatedAs it.0 it.1)
    (λ closed turn located it among.
    let before = pairwise_back Closed entries closed.entries turn it among in
    rw (sym before.2.key) at
    (g.met.V.SchemaNode.alike_located before.0.0 before.0.1 it.1 before.2.alike (located before.0 before.1)))
    c.close_table.ensures.closed
