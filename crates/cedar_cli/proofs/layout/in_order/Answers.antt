use Rattle.std.proofs.Common.{◌∙◌, ◌<◌, length, rules}
use Rattle.std.proofs.lemmas.List.{take_all}
use Rattle.std.proofs.lemmas.List.Sorted.{All-permutation}
use Rattle.cedar_cli.proofs.Places.{index_of, indexed_more, sorted_order}
use Rattle.cedar_cli.proofs.layout.in_order.Goals as goal

pub loop-index-preserved : goal.loop-index-preserved
loop-index-preserved c =
    rw c.in_ok-push.ensures.items (indexed_more index_of _ _ c.loop-index.index c.place.result c.place.ensures (search rules) c.loop-index.invariant)

pub returns-clause-order : goal.returns-clause-order
returns-clause-order c =
    rw (← c.deref-member-items.ensures.value) (sorted_order index_of _ _ _ (λ d. c.loop-index.invariant.0 d ∙ take_all c.loop-index.index _ (search rules))
    c.sort.ensures.permutation)

pub returns-clause-within : goal.returns-clause-within
returns-clause-within c =
    rw (← c.deref-member-items.ensures.value) (All-permutation (λ place. index_of place < length c.deref-member-items.result.now) _ _ c.sort.ensures.permutation c.loop-index.invariant.1)
