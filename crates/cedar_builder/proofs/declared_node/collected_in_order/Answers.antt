use Rattle.std.proofs.Common.{◌≡◌, ◌∙◌, ◌∷◌, arith, ap, inl, length, map, inr, subst, sym}
use Rattle.std.proofs.lemmas.List.{nil_from_length}
use Rattle.std.specs.List.{zip}
use Rattle.std.specs.Vec.Iter.{into_iter_items}
use Rattle.cedar_builder.proofs.NodesCollected.{all_collected, all_once, all_sound, collected_more, collected_none, next_fault, twice_fault}
use Rattle.cedar_builder.proofs.NodesPut.{no_columns, none_above, one_more_column}
use Rattle.cedar_builder.proofs.declared_node.collected_in_order.Goals as goal
use Rattle.cedar_builder.proofs.declared_node.collected_in_order.Goals.{After-into_inner-name}
use Rattle.cedar_builder.specs.Words.{AreInOrder, AreLocated, fault_of, named}
use Rattle.cedar_name_resolution.proofs.ExitLemmas.{exit_holds}

-- the declaration that is collected is the next one
next_entry : (g : _) (c : After-into_inner-name g)
    → map (named g.V.SchemaNode.key_name g.V.DeclaredNode.body_of) (into_iter_items c.loop-item.item-iterator)
    ≡ (g.V.SchemaNode.key_name c.into_inner-name.result.0, g.V.DeclaredNode.body_of c.into_inner-name.result.1)
    ∷ map (named g.V.SchemaNode.key_name g.V.DeclaredNode.body_of) (into_iter_items c.next.new.self)
next_entry g c =
    let node = g.V.SchemaNode in
    let is = g.V.DeclaredNode in
    let entries = map (named node.key_name is.body_of) in
    ap entries c.in-Some.ensures.steps.0
    ∙ ap (λ it. (node.key_name it.0, is.body_of it.1) ∷ entries (into_iter_items c.next.new.self)) (sym c.into_inner-name.ensures)

-- at first no declaration is collected
pub loop-item-init : goal.loop-item-init
loop-item-init g c =
    let node = g.V.SchemaNode in
    let is = g.V.DeclaredNode in
    let entries = map (named node.key_name is.body_of) in (
      collected_none is.is_definition node.IsExternal node.node_name (is.Gives c.args.scope.now) g.K.PartialEq.eq node.key_name
          (is.IsSound c.args.scope.now) g.met.V.SchemaNode.same_key (entries c.args.declared.items) _ _
          (λ i. zip (c.in_ok-keys.ensures.items i) (c.in_ok-nodes.ensures.items i))
          (ap entries c.into_iter-item-iterator.ensures.into_iter_gives.0),
      no_columns g.K.Ord.cmp g.met.K.Ord.total g.met.K.Ord.matches_eq node.key_name g.met.V.SchemaNode.same_key node.IsLocatedAs
          c.in_ok-keys.keys.items c.in_ok-nodes.nodes.items _ c.in_ok-keys.ensures.items c.in_ok-nodes.ensures.items
          (subst (AreInOrder g.K.Ord.cmp) (sym c.into_iter-item-iterator.ensures.into_iter_gives.0) c.requires),
    )

-- the columns are of one length, and in order, and no key is above the name of the next
pub put_node-requires-clause-columns : goal.put_node-requires-clause-columns
put_node-requires-clause-columns g c = c.loop-item.invariant.1.len

pub put_node-requires-clause-sorted : goal.put_node-requires-clause-sorted
put_node-requires-clause-sorted g c = c.loop-item.invariant.1.sorted

pub put_node-requires-clause-behind : goal.put_node-requires-clause-behind
put_node-requires-clause-behind g c = λ name same.
    let node = g.V.SchemaNode in
    none_above g.K.Ord.cmp g.met.K.Ord.total g.met.K.Ord.matches_eq node.key_name g.met.V.SchemaNode.same_key node.IsLocatedAs
    c.loop-item.keys.items c.loop-item.nodes.items _ (into_iter_items c.next.new.self) _ c.in-Some.ensures.steps.0
    c.loop-item.invariant.1 (node.node_name c.in_ok-node.node)
    (c.in_ok-node.ensures.name ∙ ap (λ it. node.key_name it.0) c.into_inner-name.ensures) name same

-- one more declaration is collected
pub loop-item-preserved : goal.loop-item-preserved
loop-item-preserved g c =
    let node = g.V.SchemaNode in
    let is = g.V.DeclaredNode in
    let entries = map (named node.key_name is.body_of) in (
      collected_more is.is_definition node.IsExternal node.node_name (is.Gives c.args.scope.now) g.K.PartialEq.eq node.key_name
          (is.IsSound c.args.scope.now) g.met.V.SchemaNode.same_key (entries c.args.declared.items)
          (zip c.loop-item.keys.items c.loop-item.nodes.items) _ _ c.into_inner-name.result.0
          (is.body_of c.into_inner-name.result.1) (next_entry g (goal.at.loop-item-preserved g c).After-into_inner-name) c.loop-item.invariant.0
          (zip c.put_node.new.keys.items c.put_node.new.nodes.items) c.in_ok-node.node
          c.in_ok-node.ensures.name c.in_ok-node.ensures.gives c.in_ok-node.ensures.external c.in_ok-node.ensures.sound
          c.in_ok-put_node.ensures.other c.in_ok-put_node.ensures.put,
      one_more_column g.K.Ord.cmp g.met.K.Ord.total g.met.K.Ord.matches_eq node.key_name g.met.V.SchemaNode.same_key node.IsLocatedAs
          c.loop-item.keys.items c.loop-item.nodes.items _ (into_iter_items c.next.new.self) _ c.in-Some.ensures.steps.0
          c.loop-item.invariant.1 (node.node_name c.in_ok-node.node)
          (c.in_ok-node.ensures.name ∙ ap (λ it. node.key_name it.0) c.into_inner-name.ensures)
          c.put_node.new.keys.items c.put_node.new.nodes.items c.in_ok-put_node.ensures.columns c.in_ok-put_node.ensures.sorted
          c.in_ok-put_node.ensures.keys (c.in_ok-put_node.ensures.located c.loop-item.invariant.1.located),
    )

-- a declaration that gives no node is at fault
pub returns-in_err-node-clause-fault : goal.returns-in_err-node-clause-fault
returns-in_err-node-clause-fault g c =
    let node = g.V.SchemaNode in
    let is = g.V.DeclaredNode in
    let entries = map (named node.key_name is.body_of) in
    let scope = c.args.scope.now in
    let fault = fault_of c.in_err-node.field-0.0 in
    exit_holds _ _ _ c.from_residual-in_err-node.ensures.1
    (next_fault is.is_definition node.IsExternal node.node_name (is.Gives scope) g.K.PartialEq.eq node.key_name (is.IsSound scope)
    g.met.V.SchemaNode.same_key (entries c.args.declared.items) (zip c.loop-item.keys.items c.loop-item.nodes.items) _ _ c.into_inner-name.result.0 (is.body_of c.into_inner-name.result.1)
    (next_entry g (goal.at.returns-in_err-node-clause-fault g c).After-into_inner-name) c.loop-item.invariant.0 (is.IsBodyFault scope) node.duplicate_fault fault c.in_err-node.ensures.fault)

-- so is a second definition of a name
pub returns-in_err-put_node-clause-fault : goal.returns-in_err-put_node-clause-fault
returns-in_err-put_node-clause-fault g c =
    let node = g.V.SchemaNode in
    let is = g.V.DeclaredNode in
    let entries = map (named node.key_name is.body_of) in
    let scope = c.args.scope.now in
    let fault = fault_of c.in_err-put_node.field-0.0 in
    let before = zip c.loop-item.keys.items c.loop-item.nodes.items in
    exit_holds _ _ _ c.from_residual-in_err-put_node.ensures.1
    (elim c.in_err-put_node.ensures.fault [
      | inl wanting ↦ inl wanting
      | inr twice ↦ twice_fault is.is_definition node.IsExternal node.node_name (is.Gives scope) g.K.PartialEq.eq node.key_name (is.IsSound scope)
          g.met.V.SchemaNode.same_key (entries c.args.declared.items) before _ _ c.into_inner-name.result.0 (is.body_of c.into_inner-name.result.1)
          (next_entry g (goal.at.returns-in_err-put_node-clause-fault g c).After-into_inner-name) c.loop-item.invariant.0 before c.in_ok-node.node c.in_ok-node.ensures.name
          c.in_ok-node.ensures.gives c.in_ok-node.ensures.external (is.IsBodyFault scope) node.duplicate_fault fault twice.0 twice.2.0 twice.2.1
          twice.2.2 twice.1
    ])

-- the keys are in order, and as many as the nodes
pub of-requires : goal.of-requires
of-requires g c = c.loop-item.invariant.1.sorted

pub from_parts-requires : goal.from_parts-requires
from_parts-requires g c = c.loop-item.invariant.1.len ∙ ap length (sym c.in_ok-of.ensures)

-- at the end at each name stands what its declarations say together
pub returns-clause-collected : goal.returns-clause-collected
returns-clause-collected g c =
    let node = g.V.SchemaNode in
    let is = g.V.DeclaredNode in
    let entries = map (named node.key_name is.body_of) in
    rw (c.from_parts.ensures, c.in_ok-of.ensures) (all_collected is.is_definition node.IsExternal node.node_name (is.Gives c.args.scope.now) g.K.PartialEq.eq node.key_name
    (is.IsSound c.args.scope.now) g.met.V.SchemaNode.same_key (entries c.args.declared.items) (zip c.loop-item.keys.items c.loop-item.nodes.items) _
    (ap entries (nil_from_length _ (omega (arith, c.in-None.ensures.steps.0, c.loop-item.item-iterator.rest.ok.0)))) c.loop-item.invariant.0)

-- no name is defined twice
pub returns-clause-once : goal.returns-clause-once
returns-clause-once g c =
    let node = g.V.SchemaNode in
    let is = g.V.DeclaredNode in
    let entries = map (named node.key_name is.body_of) in
    all_once is.is_definition node.IsExternal node.node_name (is.Gives c.args.scope.now) g.K.PartialEq.eq node.key_name
    (is.IsSound c.args.scope.now) g.met.V.SchemaNode.same_key (entries c.args.declared.items) (zip c.loop-item.keys.items c.loop-item.nodes.items) _
    (ap entries (nil_from_length _ (omega (arith, c.in-None.ensures.steps.0, c.loop-item.item-iterator.rest.ok.0)))) c.loop-item.invariant.0

-- and each declaration is sound
pub returns-clause-sound : goal.returns-clause-sound
returns-clause-sound g c =
    let node = g.V.SchemaNode in
    let is = g.V.DeclaredNode in
    let entries = map (named node.key_name is.body_of) in
    all_sound is.is_definition node.IsExternal node.node_name (is.Gives c.args.scope.now) g.K.PartialEq.eq node.key_name
    (is.IsSound c.args.scope.now) g.met.V.SchemaNode.same_key (entries c.args.declared.items) (zip c.loop-item.keys.items c.loop-item.nodes.items) _
    (ap entries (nil_from_length _ (omega (arith, c.in-None.ensures.steps.0, c.loop-item.item-iterator.rest.ok.0)))) c.loop-item.invariant.0

-- and is located as its name
pub returns-clause-located : goal.returns-clause-located
returns-clause-located g c =
    subst (AreLocated g.V.SchemaNode.IsLocatedAs)
    (sym (c.from_parts.ensures ∙ ap (λ keys. zip keys c.loop-item.nodes.items) c.in_ok-of.ensures)) c.loop-item.invariant.1.located
