use Rattle.std.proofs.Common.{map, ap, ◌∙◌}
use Rattle.std.proofs.lemmas.List.{take_all}
use Rattle.std.proofs.lemmas.List.Sorted.{IsPermutation-map}
use Rattle.cedar_queries.proofs.BorrowedLemmas.{IsSorted-borrowed, borrowed}
use Rattle.cedar_queries.proofs.completeness.names_in_order.Goals as goal

pub returns-clause-names : goal.returns-clause-names
returns-clause-names g c =
    let name = g.V.SchemaNode.key_name in
    let found = c.in_ok-selected_names.field-0.items in
    let sorted = c.in_ok-in_order.field-0.items in
    let last = c.loop-name.invariant
    ∙ ap (map (borrowed name)) (take_all c.loop-name.name-index c.deref-name-items.result.now c.loop-name-test.false
    ∙ c.deref-name-items.ensures.value) in
    rw (← last, c.in_ok-selected_names.ensures) at (IsPermutation-map (borrowed name) found sorted c.in_ok-in_order.ensures.permutation)

pub returns-clause-sorted : goal.returns-clause-sorted
returns-clause-sorted g c =
    let name = g.V.SchemaNode.key_name in
    let last = c.loop-name.invariant
    ∙ ap (map (borrowed name)) (take_all c.loop-name.name-index c.deref-name-items.result.now c.loop-name-test.false
    ∙ c.deref-name-items.ensures.value) in
    rw last
    (IsSorted-borrowed g.K.Ord.cmp g.V.SchemaNode.name_order name g.met.V.SchemaNode.key_order c.in_ok-in_order.field-0.items
    c.in_ok-in_order.ensures.sorted)
