use Rattle.std.proofs.Common.{◌≡◌}
use Rattle.cedar_schema_ast.specs.declared.json_schema.raw_name.RawName.{RawName}
use Rattle.cedar_schema_ast.specs.declared.json_schema.type_of.RecordType.{out-RecordType}
use Rattle.cedar_schema_text_writer.proofs.Checked.{entries_flaw}
use Rattle.cedar_schema_text_writer.specs.Scope.{first_in, namespace_in}
use Rattle.cedar_schema_text_writer.proofs.check_types.+type_checking.Given as goal

abbrev pub invariant-check_record-loop-name : goal.invariant-check_record-loop-name
invariant-check_record-loop-name l =
    let found = entries_flaw (first_in l.scope) l.part (namespace_in l.scope) in
    found l._name-iterator ≡ found (out-RecordType RawName l.record_type).attributes.entries
