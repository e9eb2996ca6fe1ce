use Rattle.std.proofs.Common.{◌≡◌, ◌↔◌, arith, length}
use Rattle.std.proofs.lemmas.Result.{IfErr-weaker, IfOk-weaker, on_ok_weaker}
use Rattle.std.specs.Map.{keys_of}
use Rattle.cedar_ast.proofs.Chains.{refined}
use Rattle.cedar_graph.proofs.TableClosing.{closed_pairwise, fault_of_steps, on_ok_anyway}
use Rattle.cedar_graph.proofs.TableEdges.{leads_there, linked, list_from_step, step_from_list, within}
use Rattle.cedar_graph.proofs.table_closing.close_table.Goals as goal
use Rattle.cedar_graph.proofs.table_closing.close_table.Goals.{In_ok-targets}
use Rattle.cedar_graph.specs.Words.{AreInTurn, Chain, HasEntry, HoldsPairwise, IsClosedTo, IsCycle, IsGrown, IsTableFault, ListHas, StepsTo, one}

-- steps by places are the edges of the table
steps : (g : _) (c : In_ok-targets g) (a b : _)
    → ListHas g.K.PartialEq.eq (keys_of c.args.nodes.entries) c.in_ok-targets.targets.items a b
    ↔ StepsTo g.K.PartialEq.eq g.V.TCNode.has_edge c.args.nodes.entries a b
steps g c a b =
    let laws = g.met.K.Eq.laws in
    let edge = g.V.TCNode.has_edge in
    let respect = g.met.V.TCNode.edges_respect_eq in
    let entries = c.args.nodes.entries in
    let targets = c.in_ok-targets.targets.items in
    let len : length targets ≡ length entries = omega (arith, c.in_ok-targets.ensures.len, c.in_ok-targets.targets.ok.0) in
    let places = c.in_ok-targets.ensures.places in (
      step_from_list laws edge respect entries targets len places a b,
      list_from_step laws edge respect entries targets len places a b,
    )

pub closed_table-requires-clause-within : goal.closed_table-requires-clause-within
closed_table-requires-clause-within g c =
    within g.met.K.Eq.laws g.V.TCNode.has_edge g.met.V.TCNode.edges_respect_eq c.args.nodes.entries c.in_ok-targets.targets.items
    (omega (arith, c.in_ok-targets.ensures.len, c.in_ok-targets.targets.ok.0)) c.in_ok-targets.ensures.places

pub closed_table-requires-clause-linked : goal.closed_table-requires-clause-linked
closed_table-requires-clause-linked g c =
    linked g.met.K.Eq.laws g.V.TCNode.has_edge g.met.V.TCNode.edges_respect_eq c.args.nodes.entries c.in_ok-targets.targets.items
    (omega (arith, c.in_ok-targets.ensures.len, c.in_ok-targets.targets.ok.0)) c.in_ok-targets.ensures.places

pub returns-clause-closed : goal.returns-clause-closed
returns-clause-closed g c =
    let d = (goal.at.returns-clause-closed g c).In_ok-targets in
    let eq = g.K.PartialEq.eq in
    let edge = g.V.TCNode.has_edge in
    let alike = g.V.TCNode.is_alike in
    let entries = c.args.nodes.entries in
    let Leads = ListHas eq (keys_of entries) c.in_ok-targets.targets.items in
    IfOk-weaker c.closed_table.result
    (λ closed. AreInTurn (λ i it other. (other.0 ≡ it.0) × IsGrown edge alike (Chain Leads it.0) it.1 other.1) entries closed.entries)
    (λ closed. HoldsPairwise (IsClosedTo edge alike (StepsTo eq edge entries)) entries closed.entries)
    (λ closed. closed_pairwise g.met.K.Eq.laws edge alike entries closed.entries Leads (steps g d)) c.closed_table.ensures.closed

pub returns-clause-declared : goal.returns-clause-declared
returns-clause-declared g c = on_ok_anyway c.closed_table.result
    (leads_there g.met.K.Eq.laws g.V.TCNode.has_edge g.met.V.TCNode.edges_respect_eq c.args.nodes.entries c.in_ok-targets.targets.items
    (omega (arith, c.in_ok-targets.ensures.len, c.in_ok-targets.targets.ok.0)) c.in_ok-targets.ensures.places)

pub returns-clause-acyclic : goal.returns-clause-acyclic
returns-clause-acyclic g c =
    let d = (goal.at.returns-clause-acyclic g c).In_ok-targets in
    on_ok_weaker c.closed_table.result
    (λ none enforced key chain. none enforced key (refined (λ a b step. one ((steps g d a b).1 step)) chain))
    c.closed_table.ensures.acyclic

pub returns-clause-fault : goal.returns-clause-fault
returns-clause-fault g c =
    let d = (goal.at.returns-clause-fault g c).In_ok-targets in
    let eq = g.K.PartialEq.eq in
    let entries = c.args.nodes.entries in
    let Leads = ListHas eq (keys_of entries) c.in_ok-targets.targets.items in
    let Steps = StepsTo eq g.V.TCNode.has_edge entries in
    IfErr-weaker c.closed_table.result (IsCycle Leads c.args.enforce_dag)
    (IsTableFault Steps (HasEntry eq entries) c.args.enforce_dag)
    (fault_of_steps Leads Steps (HasEntry eq entries) (λ a b. (steps g d a b).0) c.args.enforce_dag) c.closed_table.ensures.fault
