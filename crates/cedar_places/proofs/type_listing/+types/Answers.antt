use Rattle.std.proofs.Common.{map, sym}
use Rattle.cedar_places.proofs.TableLemmas.{IsUnderWay-done, IsUnderWay-next}
use Rattle.cedar_places.proofs.TypeMarkLemmas.{entry_marks, record_marks-begun}
use Rattle.cedar_places.proofs.type_listing.+types.Goals as goal
use Rattle.cedar_places.specs.Words.{marked, record_marks}

-- a record type that is open is listed first
pub list_record-loop-attribute-init : goal.list_record-loop-attribute-init
list_record-loop-attribute-init t c =
    λ suffices.
    let own = c.list_if_open.ensures suffices in (
      own.0,
      record_marks-begun c.args.record_type.now c.args.loc (map marked c.args.table.now.listed.items) (map marked c.list_if_open.new.table.listed.items)
          c.into_iter-attribute-iterator.result (sym c.into_iter-attribute-iterator.ensures.into_iter_gives.0) own.1,
    )

-- what is in the type of one more attribute is listed
pub list_record-loop-attribute-preserved : goal.list_record-loop-attribute-preserved
list_record-loop-attribute-preserved t c =
    IsUnderWay-next entry_marks c.args.table.now (record_marks c.args.record_type.now c.args.loc) c.loop-attribute.table c.list_type.new.table
    (c.in-Some.field-0-0.now, c.in-Some.attribute.now) c.loop-attribute.attribute-iterator c.next.new.self c.in-Some.ensures.steps
    c.list_type.ensures c.loop-attribute.invariant

-- where no attribute is left, all is listed
pub list_record-returns : goal.list_record-returns
list_record-returns t c =
    IsUnderWay-done entry_marks c.args.table.now (record_marks c.args.record_type.now c.args.loc) c.loop-attribute.table
    c.loop-attribute.attribute-iterator c.in-None.ensures.steps.0 c.loop-attribute.invariant
