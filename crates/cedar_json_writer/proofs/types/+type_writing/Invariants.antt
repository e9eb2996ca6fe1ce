use Rattle.cedar_json_writer.proofs.WritingLemmas.{SoFar}
use Rattle.cedar_json_writer.proofs.WrittenTypes.{attributes_shape}
use Rattle.cedar_json_writer.proofs.types.+type_writing.Given as goal
use Rattle.cedar_json_writer.specs.Words.{RawName, out-RecordType}

abbrev pub invariant-write_record-loop-name : goal.invariant-write_record-loop-name
invariant-write_record-loop-name l =
    SoFar attributes_shape l.initial.out l.out (out-RecordType RawName l.record_type).attributes.entries l.name-iterator
