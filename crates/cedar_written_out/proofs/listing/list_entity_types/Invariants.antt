use Rattle.std.proofs.Common.{take}
use Rattle.cedar_written_out.proofs.listing.list_entity_types.Given as goal
use Rattle.cedar_written_out.specs.Words.{Defined, KnowsAll, ListsAlso, RawName, exprs_of_entities, raw_reference, written_entities}

abbrev pub invariant-loop-item : goal.invariant-loop-item
invariant-loop-item l =
    (defined : Defined) → KnowsAll defined l.scope
    → ListsAlso defined (exprs_of_entities (written_entities RawName raw_reference (take l.item-index l.types))) l.initial.listed.items
    l.listed.items
