use Rattle.cedar_schema_text_writer.proofs.Written.{Leaves, entries_pieces}
use Rattle.cedar_schema_text_writer.specs.Scope.{first_in, namespace_in}
use Rattle.cedar_schema_ast.specs.declared.json_schema.type_of.RecordType.{out-RecordType}
use Rattle.cedar_schema_ast.specs.declared.json_schema.raw_name.RawName.{RawName}
use Rattle.cedar_schema_text_writer.proofs.types.+type_writing.Given as goal

abbrev pub invariant-put_record-loop-name : goal.invariant-put_record-loop-name
invariant-put_record-loop-name l =
    let pieces = entries_pieces (first_in l.scope) (namespace_in l.scope) l.inner in
    Leaves l.initial.out l.out (pieces (out-RecordType RawName l.record_type).attributes.entries) (pieces l.name-iterator)
