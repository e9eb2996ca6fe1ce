use Rattle.std.proofs.Common.{take}
use Rattle.cedar_written_out.proofs.listing.list_actions.Given as goal
use Rattle.cedar_written_out.specs.Words.{Defined, KnowsAll, ListsAlso, RawName, exprs_of_actions, raw_reference, written_actions}

abbrev pub invariant-loop-item : goal.invariant-loop-item
invariant-loop-item l =
    (defined : Defined) → KnowsAll defined l.scope
    → ListsAlso defined (exprs_of_actions (written_actions RawName raw_reference (take l.item-index l.actions))) l.initial.listed.items
    l.listed.items
