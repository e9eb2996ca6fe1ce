use Rattle.std.specs.Map.{keys_of}
use Rattle.cedar_builder.proofs.NodesLinked.{cycle_alone, linked_alike, linked_leads, linked_located}
use Rattle.cedar_builder.proofs.links.link.Goals as goal
use Rattle.cedar_graph.proofs.TableClosing.{distinct_keys}
use Rattle.cedar_name_resolution.proofs.ExitLemmas.{exit_holds}

-- keys in order differ
pub returns-clause-distinct : goal.returns-clause-distinct
returns-clause-distinct g c =
    distinct_keys g.K.Ord.cmp g.met.K.Ord.matches_eq (keys_of c.in_ok-linked.linked.entries) c.keys_ascend.ensures

-- nodes that stay alike keep their locations
pub returns-clause-located : goal.returns-clause-located
returns-clause-located g c =
    linked_located g.met.K.Eq.laws g.V.TCNode.has_edge g.V.TCNode.is_alike c.args.edges.items c.args.nodes.entries
    c.in_ok-linked.linked.entries c.in_ok-linked.ensures.linked g.V.SchemaNode.IsLocatedAs g.met.V.SchemaNode.alike_located

pub returns-clause-alike : goal.returns-clause-alike
returns-clause-alike g c =
    linked_alike g.met.K.Eq.laws g.V.TCNode.has_edge g.V.TCNode.is_alike c.args.edges.items c.args.nodes.entries
    c.in_ok-linked.linked.entries c.in_ok-linked.ensures.linked

-- a node leads to another just where a chain of edges does
pub returns-clause-linked : goal.returns-clause-linked
returns-clause-linked g c =
    linked_leads g.met.K.Eq.laws g.V.TCNode.has_edge g.V.TCNode.is_alike c.args.edges.items c.args.nodes.entries
    c.in_ok-linked.linked.entries c.in_ok-linked.ensures.linked

-- a refusal is a cycle of the edges
pub returns-in_err-linked-clause-fault : goal.returns-in_err-linked-clause-fault
returns-in_err-linked-clause-fault g c =
    exit_holds _ _ _ c.from_residual.ensures.1
    (λ ready. cycle_alone g.met.K.Eq.laws g.V.TCNode.has_edge c.args.edges.items c.args.nodes.entries ready _ c.in_err-linked.field-0.0
    c.in_err-linked.ensures.fault)
