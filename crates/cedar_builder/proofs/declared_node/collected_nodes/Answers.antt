use Rattle.std.proofs.Common.{rules, arith, map}
use Rattle.std.proofs.lemmas.List.Sorted.{IsPermutation-sym, answers_always, ranks_by, sorted_far}
use Rattle.std.proofs.lemmas.Result.{IfErr-weaker, IfOk-weaker, on_ok_weaker}
use Rattle.std.specs.Ordering.{is_lt}
use Rattle.cedar_builder.proofs.InAnyOrder.{among_forth, collected_forth, fault_forth, twice_forth}
use Rattle.cedar_builder.proofs.NodesPut.{not_above}
use Rattle.cedar_builder.proofs.declared_node.collected_nodes.Goals as goal
use Rattle.cedar_builder.specs.Words.{fault_of, named}

-- the declarations are sorted by their keys
pub collected_in_order-requires : goal.collected_in_order-requires
collected_in_order-requires g c = λ i j d before within.
    let cmp = g.K.Ord.cmp in
    let sorted = c.in_ok-sort_by.ensures.sorted (λ a b. is_lt (cmp a.value.0 b.value.0)) (ranks_by g.met.K.Ord.total (λ it. it.value.0))
    (answers_always _ _ _ (λ f a r f' called. search rules)) in
    not_above cmp g.met.K.Ord.total _ _
    (sorted_far _ (ranks_by g.met.K.Ord.total (λ it. it.value.0)) c.sort_by.new.self.items sorted i j d (omega (arith, before)) within)

-- what they say they say in the order in which they came
pub returns-clause-collected : goal.returns-clause-collected
returns-clause-collected g c =
    let node = g.V.SchemaNode in
    let is = g.V.DeclaredNode in
    let entry = named node.key_name is.body_of in
    let sorted = c.sort_by.new.self.items in
    let given = c.args.declared.items in
    let moved = c.in_ok-sort_by.ensures.permutation in
    IfOk-weaker c.collected_in_order.result _ _
    (λ nodes collected key.
    collected_forth is.is_definition (map entry sorted) (map entry given)
    (among_forth is.is_definition entry sorted given (IsPermutation-sym given sorted moved))
    (among_forth is.is_definition entry given sorted moved)
    node.IsExternal node.node_name (is.Gives c.args.scope.now) (node.key_name key) _ (collected key))
    c.collected_in_order.ensures.collected

-- a name that is defined twice is so in either order
pub returns-clause-once : goal.returns-clause-once
returns-clause-once g c =
    let node = g.V.SchemaNode in
    let is = g.V.DeclaredNode in
    let entry = named node.key_name is.body_of in
    on_ok_weaker c.collected_in_order.result
    (λ once name twice. once name (twice_forth is.is_definition entry (λ a b. g.K.PartialEq.eq a.value.0 b.value.0)
    (λ a b. g.met.V.SchemaNode.same_key a.value.0 b.value.0) c.args.declared.items c.sort_by.new.self.items
    c.in_ok-sort_by.ensures.permutation name twice))
    c.collected_in_order.ensures.once

pub returns-clause-sound : goal.returns-clause-sound
returns-clause-sound g c =
    let entry = named g.V.SchemaNode.key_name g.V.DeclaredNode.body_of in
    on_ok_weaker c.collected_in_order.result
    (λ sound name body among. sound name body (among_forth g.V.DeclaredNode.is_definition entry c.args.declared.items
    c.sort_by.new.self.items c.in_ok-sort_by.ensures.permutation (name, body) among))
    c.collected_in_order.ensures.sound

-- and so is any fault
pub returns-clause-fault : goal.returns-clause-fault
returns-clause-fault g c =
    let node = g.V.SchemaNode in
    let is = g.V.DeclaredNode in
    let entry = named node.key_name is.body_of in
    let sorted = c.sort_by.new.self.items in
    let given = c.args.declared.items in
    IfErr-weaker c.collected_in_order.result _ _
    (λ error at. fault_forth is.is_definition entry sorted given (IsPermutation-sym given sorted c.in_ok-sort_by.ensures.permutation)
    (λ a b. g.K.PartialEq.eq a.value.0 b.value.0) (λ a b. g.met.V.SchemaNode.same_key a.value.0 b.value.0) node.key_name (is.IsBodyFault c.args.scope.now)
    node.duplicate_fault (fault_of error) at)
    c.collected_in_order.ensures.fault
