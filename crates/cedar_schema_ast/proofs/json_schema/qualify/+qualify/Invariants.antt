use Rattle.cedar_schema_ast.proofs.Converted.{ConvertedSoFar}
use Rattle.cedar_schema_ast.proofs.QualifyLemmas.{both_ways, written_both_ways}
use Rattle.cedar_schema_ast.proofs.json_schema.qualify.+qualify.Given as goal
use Rattle.cedar_schema_ast.specs.Words.{RawName, namespace_name, out-RecordType}

abbrev pub invariant-qualify_record-loop-name : goal.invariant-qualify_record-loop-name
invariant-qualify_record-loop-name l =
    ConvertedSoFar (written_both_ways (namespace_name l.namespace)) both_ways
    (out-RecordType RawName l.fn.record_type).attributes.entries l.attributes.entries l.name-iterator
