use Rattle.std.proofs.Common.{◌≡◌, ◌↔◌, arith, subst}
use Rattle.std.proofs.lemmas.List.{length-map}
use Rattle.std.proofs.lemmas.Result.{IfErr-weaker, IfOk-weaker, err_from_is_err_and, on_ok_weaker}
use Rattle.std.specs.Map.{keys_of}
use Rattle.cedar_ast.proofs.Chains.{refined}
use Rattle.cedar_graph.proofs.TableLinking.{edge_from_list, fault_of_cycle, fault_of_ends, linked_pairwise, list_from_edge, not_linked, targets_within}
use Rattle.cedar_graph.proofs.table_linking.link_table.Goals as goal
use Rattle.cedar_graph.proofs.table_linking.link_table.Goals.{In_ok-targets}
use Rattle.cedar_graph.specs.Words.{AreInTurn, AreTargetsOf, Chain, HasEntry, HoldsPairwise, IsCycle, IsEdgeIn, IsEndIn, IsGrown, IsLack, IsLinkedTo, ListHas, one}

-- the places are those of the edges
of_edges : (g : _) (c : In_ok-targets g)
    → AreTargetsOf g.K.PartialEq.eq (keys_of c.args.nodes.entries) c.args.edges.items c.in_ok-targets.targets.items
of_edges g c =
    subst (λ edges. AreTargetsOf g.K.PartialEq.eq (keys_of c.args.nodes.entries) edges c.in_ok-targets.targets.items)
    c.deref.ensures.value c.in_ok-targets.ensures.targets

-- steps by places are the edges
steps : (g : _) (c : In_ok-targets g) (a b : _)
    → ListHas g.K.PartialEq.eq (keys_of c.args.nodes.entries) c.in_ok-targets.targets.items a b
    ↔ IsEdgeIn g.K.PartialEq.eq c.args.edges.items a b
steps g c a b =
    let names = keys_of c.args.nodes.entries in
    let targets = c.in_ok-targets.targets.items in
    let are = of_edges g c in (
      edge_from_list g.met.K.Eq.laws names c.args.edges.items targets are a b,
      list_from_edge g.met.K.Eq.laws names c.args.edges.items targets are a b,
    )

pub closed_table-requires-clause-within : goal.closed_table-requires-clause-within
closed_table-requires-clause-within g c = λ i j target.
    let below = targets_within g.met.K.Eq.laws (keys_of c.args.nodes.entries) c.args.edges.items c.in_ok-targets.targets.items
    (of_edges g (goal.at.closed_table-requires-clause-within g c).In_ok-targets) i j target in
    omega (arith, below, length-map c.args.nodes.entries (λ e. e.0))

pub closed_table-requires-clause-linked : goal.closed_table-requires-clause-linked
closed_table-requires-clause-linked g c =
    not_linked g.K.PartialEq.eq g.V.TCNode.has_edge c.args.nodes.entries c.in_ok-known.known.items c.in_ok-known.ensures.empty

-- a key that is lacked is an end of an edge
pub returns-in_err-targets-clause-fault : goal.returns-in_err-targets-clause-fault
returns-in_err-targets-clause-fault g c =
    let p = err_from_is_err_and c.from_residual.result c.from_residual.ensures.1 in
    let fault = fault_of_ends _ _ c.in_err-targets.field-0.0
    (subst (λ edges. IsLack (HasEntry g.K.PartialEq.eq c.args.nodes.entries) (IsEndIn g.K.PartialEq.eq edges) c.in_err-targets.field-0.0)
    c.deref.ensures.value c.in_err-targets.ensures.fault) in
    rw (p.1, p.2) fault

pub returns-clause-linked : goal.returns-clause-linked
returns-clause-linked g c =
    let d = (goal.at.returns-clause-linked g c).In_ok-targets in
    let eq = g.K.PartialEq.eq in
    let edge = g.V.TCNode.has_edge in
    let alike = g.V.TCNode.is_alike in
    let entries = c.args.nodes.entries in
    let Leads = ListHas eq (keys_of entries) c.in_ok-targets.targets.items in
    IfOk-weaker c.closed_table.result
    (λ closed. AreInTurn (λ i it other. (other.0 ≡ it.0) × IsGrown edge alike (Chain Leads it.0) it.1 other.1) entries closed.entries)
    (λ closed. HoldsPairwise (IsLinkedTo edge alike (IsEdgeIn eq c.args.edges.items)) entries closed.entries)
    (λ closed. linked_pairwise edge alike entries closed.entries Leads (IsEdgeIn eq c.args.edges.items) (steps g d)) c.closed_table.ensures.closed

pub returns-clause-acyclic : goal.returns-clause-acyclic
returns-clause-acyclic g c =
    let d = (goal.at.returns-clause-acyclic g c).In_ok-targets in
    on_ok_weaker c.closed_table.result
    (λ none enforced key chain. none enforced key (refined (λ a b edge. one ((steps g d a b).1 edge)) chain))
    c.closed_table.ensures.acyclic

pub returns-clause-fault : goal.returns-clause-fault
returns-clause-fault g c =
    let d = (goal.at.returns-clause-fault g c).In_ok-targets in
    let eq = g.K.PartialEq.eq in
    let entries = c.args.nodes.entries in
    let Leads = ListHas eq (keys_of entries) c.in_ok-targets.targets.items in
    IfErr-weaker c.closed_table.result (IsCycle Leads c.args.enforce_dag) _
    (fault_of_cycle _ _ _ (λ key cycle. (cycle.0, refined (λ a b leads. one ((steps g d a b).0 leads)) cycle.1))) c.closed_table.ensures.fault
