use Rattle.cedar_written_out.proofs.MeasureLemmas.{MeasuredSoFar}
use Rattle.cedar_written_out.proofs.measuring.+measure.Given as goal
use Rattle.cedar_written_out.specs.Words.{RawName, namespace_name, raw_reference}

abbrev pub invariant-measure_record-loop-attribute : goal.invariant-measure_record-loop-attribute
invariant-measure_record-loop-attribute l =
    MeasuredSoFar RawName (raw_reference (namespace_name l.namespace)) l.scope l.record_type l.whole l.attribute-iterator
