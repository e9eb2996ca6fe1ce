use Rattle.cedar_schema_ast.proofs.CopyLemmas.{CopiedSoFar}
use Rattle.cedar_schema_ast.proofs.json_schema.copying.+copying.Given as goal
use Rattle.cedar_schema_ast.specs.declared.json_schema.type_of.RecordType.{out-RecordType}

abbrev pub invariant-copy_record-loop-name : goal.invariant-copy_record-loop-name
invariant-copy_record-loop-name g l =
    CopiedSoFar g.row.N.Denot g.N.FragmentName.is_alike (out-RecordType g.row.N.Denot l.record_type).attributes.entries
    l.attributes.entries l.name-iterator
