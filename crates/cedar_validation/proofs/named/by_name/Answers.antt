use Rattle.std.proofs.Common.{◌≡◌, Contains, ap, subst, sym, ◌∙◌}
use Rattle.std.proofs.IntoIterSteps.{All-taken}
use Rattle.std.specs.BTreeMap.{get_by, is_at}
use Rattle.std.specs.Map.{lookup}
use Rattle.std.specs.Ordering.{is_eq}
use Rattle.cedar_graph.proofs.Lists.{empty_lacks}
use Rattle.cedar_validation.proofs.LastLemmas.{named_more}
use Rattle.cedar_validation.proofs.named.by_name.Goals as goal
use Rattle.cedar_validation.proofs.named.by_name.Invariants.{IsPlaced}
use Rattle.cedar_validation.specs.LastNamed.{last_that}

-- the map is empty at first, so it has nothing under any name
pub loop-node-init : goal.loop-node-init
loop-node-init g c = record {
  last = λ name. ap (lookup (is_at (g.K.Ord.cmp name))) c.new-named.ensures.empty;
  each = λ it among. empty_lacks (IsPlaced g) c.new-named.result.entries c.new-named.ensures.empty it among;
}

-- the node, under a copy of its own name, takes the place of an earlier one; other names keep
-- theirs
pub loop-node-preserved-in_ok-insert : goal.loop-node-preserved-in_ok-insert
loop-node-preserved-in_ok-insert g c =
    let own = c.in_ok-name.ensures.name ∙ c.name.ensures.name in
    named_more g.K.Ord.cmp g.V.SchemaNode.name_order g.V.SchemaNode.key_name g.V.SchemaNode.node_name (IsPlaced g)
    g.met.V.SchemaNode.order_total g.met.V.SchemaNode.key_order c.loop-node.named c.remove-earlier.new.self c.insert.new.self
    c.loop-node.yielded c.in_ok-name.name c.in-Some.node own
    (sym own, c.in_ok-name.ensures.located c.in-Some.node c.name.ensures.located) c.remove-earlier.ensures.entries
    c.remove-earlier.ensures.updates.0 c.remove-earlier.ensures.updates.1 c.in_ok-insert.ensures.entries
    c.in_ok-insert.ensures.updates.0 c.loop-node.invariant

pub loop-node-preserved : goal.loop-node-preserved
loop-node-preserved g c =
    let own = c.in_ok-name.ensures.name ∙ c.name.ensures.name in
    named_more g.K.Ord.cmp g.V.SchemaNode.name_order g.V.SchemaNode.key_name g.V.SchemaNode.node_name (IsPlaced g)
    g.met.V.SchemaNode.order_total g.met.V.SchemaNode.key_order c.loop-node.named c.remove-earlier.new.self c.insert.new.self
    c.loop-node.yielded c.in_ok-name.name c.in-Some.node own
    (sym own, c.in_ok-name.ensures.located c.in-Some.node c.name.ensures.located) c.remove-earlier.ensures.entries
    c.remove-earlier.ensures.updates.0 c.remove-earlier.ensures.updates.1 c.in_ok-insert.ensures.entries
    c.in_ok-insert.ensures.updates.0 c.loop-node.invariant

-- all nodes are put in, so what is found under a name is the last node of that name
pub returns-clause-last : goal.returns-clause-last
returns-clause-last g c = λ name.
    let node = g.V.SchemaNode in
    let all : c.loop-node.yielded ≡ c.args.nodes.items =
    All-taken c.into_iter-node-iterator.result c.loop-node.yielded
    (c.next.new.self, (c.loop-node.node-iterator, c.loop-node.yielded_by, c.in-None.ensures.steps))
    ∙ c.into_iter-node-iterator.ensures.into_iter_gives.0 in
    ap (λ entries. lookup (is_at (λ key. node.name_order (node.key_name name) (node.key_name key))) entries) c.in_ok-from_map.ensures
    ∙ (sym (ap (λ compare. get_by compare c.loop-node.named) (λ i key. g.met.V.SchemaNode.key_order name key i))
    ∙ (c.loop-node.invariant.last name
    ∙ ap (last_that (λ it. is_eq (node.name_order (node.key_name name) (node.node_name it)))) all))

-- the table has the entries of the map, each of which is under the name of its node
pub returns-clause-under_names : goal.returns-clause-under_names
returns-clause-under_names g c = λ it among.
    (c.loop-node.invariant.each it (subst (λ entries. Contains entries it) c.in_ok-from_map.ensures among)).0

-- the keys of those entries are located as in their nodes
pub returns-clause-located : goal.returns-clause-located
returns-clause-located g c = λ it among.
    (c.loop-node.invariant.each it (subst (λ entries. Contains entries it) c.in_ok-from_map.ensures among)).1
