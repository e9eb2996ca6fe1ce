use Rattle.std.proofs.Common.{map}
use Rattle.cedar_schema_writer.proofs.Written.{WrittenSoFar}
use Rattle.cedar_schema_writer.proofs.known.Known.write_names.Given as goal
use Rattle.cedar_schema_writer.specs.Words.{NamesNoOther, known_names, plain_namespace, raw_name, type_name}

abbrev pub invariant-loop-name : goal.invariant-loop-name
invariant-loop-name l =
    WrittenSoFar (NamesNoOther (known_names l.self) (plain_namespace l.namespace)) (map type_name l.fn.names)
    (map raw_name l.written.items) (map type_name l.name-iterator)
