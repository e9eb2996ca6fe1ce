use Rattle.std.proofs.Common.{◌<◌, ℕ, length, ap, sym, subst, ◌∙◌, rules}
use Rattle.std.proofs.Math.ListN.{length-map}
use Rattle.cedar_ast.proofs.Chains.{last_step}
use Rattle.cedar_elaboration.proofs.IndexLemmas.{item_at_index}
use Rattle.cedar_elaboration.proofs.OrderLemmas.{as_many, cycle_found, name_at, no_cycle_among, order_of_indices}
use Rattle.cedar_elaboration.proofs.ordering.elaboration_order.Goals as goal
use Rattle.cedar_elaboration.proofs.ordering.elaboration_order.Goals.{In-Cycle}
use Rattle.cedar_elaboration.specs.Words.{LeadsTo, held_names, indexed_names, name_of, written_common, written_expr}

pub returns-in-Order-clause-order : goal.returns-in-Order-clause-order
returns-in-Order-clause-order g c =
    let in_order = rw c.in-Order.is at c.in_ok-order.ensures in
    order_of_indices (held_names c.args.defs.now) (written_common g.row.N.Denot g.N.WrittenName.refer c.args.declared.now) (indexed_names c.in_ok-indices.indices) c.in_ok-targets.targets.items
    c.in_ok-indices.ensures.indices c.in_ok-targets.ensures c.in-Order.order.items in_order.0

pub returns-in-Order-clause-no_cycle : goal.returns-in-Order-clause-no_cycle
returns-in-Order-clause-no_cycle g c =
    let in_order = rw c.in-Order.is at c.in_ok-order.ensures in
    no_cycle_among (held_names c.args.defs.now) (written_common g.row.N.Denot g.N.WrittenName.refer c.args.declared.now) (indexed_names c.in_ok-indices.indices) c.in_ok-targets.targets.items
    c.in_ok-indices.ensures.indices c.in_ok-targets.ensures c.in_ok-indices.ensures.once in_order.1

-- the index that is on a cycle is one of a common type
within : (g : _) (c : In-Cycle g) → c.in-Cycle.item_index < length c.args.declared.now
within g c =
    let chain = rw c.in-Cycle.is at c.in_ok-order.ensures in
    let step = last_step (LeadsTo c.in_ok-targets.targets.items) c.in-Cycle.item_index c.in-Cycle.item_index chain in
    let IsWithin : ℕ → Type 0 = λ each. c.in-Cycle.item_index < each in
    subst IsWithin (sym (as_many (held_names c.args.defs.now) (written_common g.row.N.Denot g.N.WrittenName.refer c.args.declared.now) (indexed_names c.in_ok-indices.indices) c.in_ok-targets.targets.items
    c.in_ok-indices.ensures.indices c.in_ok-targets.ensures)
    ∙ length-map c.args.declared.now (λ it. (name_of it.0, written_expr g.row.N.Denot g.N.WrittenName.refer it.1))) step.1.1

pub bounds-declared-item_index : goal.bounds-declared-item_index
bounds-declared-item_index g c = within g c

pub offset_bounds-declared-item_index : goal.offset_bounds-declared-item_index
offset_bounds-declared-item_index g c = let below = within g c in search (rules, below)

pub returns-clause-fault : goal.returns-clause-fault
returns-clause-fault g c among =
    let names = held_names c.args.defs.now in
    let items = written_common g.row.N.Denot g.N.WrittenName.refer c.args.declared.now in
    let item = c.index-declared-item_index.result in
    let below : c.in-Cycle.item_index < length c.args.declared.now = within g (goal.at.returns-clause-fault g c).In-Cycle in
    let stands = name_at items c.in-Cycle.item_index (name_of item.0, written_expr g.row.N.Denot g.N.WrittenName.refer item.1)
    (item_at_index g.row.N.Denot g.N.WrittenName.refer c.args.declared.now c.in-Cycle.item_index item below c.index-declared-item_index.is) in
    let chain = rw c.in-Cycle.is at c.in_ok-order.ensures in
    rw (c.in_ok-name-in-Cycle.ensures.name, ap (λ it. name_of it.0) (sym c.index-declared-item_index.is))
    (cycle_found names items (indexed_names c.in_ok-indices.indices) c.in_ok-targets.targets.items c.in_ok-indices.ensures.indices
    c.in_ok-targets.ensures c.in-Cycle.item_index (name_of item.0) stands chain among)
