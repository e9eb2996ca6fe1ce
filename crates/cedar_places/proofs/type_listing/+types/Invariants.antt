use Rattle.cedar_places.proofs.TableLemmas.{IsUnderWay}
use Rattle.cedar_places.proofs.TypeMarkLemmas.{entry_marks}
use Rattle.cedar_places.proofs.type_listing.+types.Given as goal
use Rattle.cedar_places.specs.Words.{record_marks}

abbrev pub invariant-list_record-loop-attribute : goal.invariant-list_record-loop-attribute
invariant-list_record-loop-attribute l =
    IsUnderWay entry_marks l.fn.table (record_marks l.record_type l.fn.loc) l.table l.attribute-iterator
