use Rattle.cedar_schema_ast.specs.Words.{members_from, plain_members}
use Rattle.std.proofs.Common.{None}
use Rattle.cedar_schema_ast.specs.declared.json_schema.raw_name.RawName.{RawName}
use Rattle.cedar_schema_ast.specs.declared.json_schema.type_of.RecordType.{out-RecordType}
use Rattle.cedar_schema_text_laws.specs.Sayable.{SayableMembers}
use Rattle.cedar_schema_text_laws.proofs.sayable.+sayable_types.Given as goal

abbrev pub invariant-record_holds-loop-name : goal.invariant-record_holds-loop-name
invariant-record_holds-loop-name l =
    SayableMembers (members_from (plain_members None l._name-iterator))
    → SayableMembers (members_from (plain_members None (out-RecordType RawName l.record_type).attributes.entries))
