use Rattle.cedar_fragments.proofs.AttributeLemmas.{attributes_fault, attributes_named, nonempty_by}
use Rattle.cedar_fragments.proofs.namespace.actions.refuse_attributes.Goals as goal

-- the listed actions have attributes, which is a fault in whichever namespace
pub returns-then-not-is_empty-clause-fault : goal.returns-then-not-is_empty-clause-fault
returns-then-not-is_empty-clause-fault c namespace =
    let some = nonempty_by c.in_ok-ids.ids c.is_empty.result c.is_empty.ensures c.if-not-is_empty.true in
    attributes_fault namespace c.args.written.now.entries c.in_ok-ids.ids.items
    c.in_ok-ids.ensures.listed c.in_ok-ids.ensures.in_order some

-- all that have attributes are named
pub returns-then-not-is_empty-clause-all_named : goal.returns-then-not-is_empty-clause-all_named
returns-then-not-is_empty-clause-all_named c namespace =
    attributes_named namespace c.args.written.now.entries c.in_ok-ids.ids.items c.in_ok-ids.ensures.listed
