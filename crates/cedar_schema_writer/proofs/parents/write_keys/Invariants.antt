use Rattle.std.proofs.Common.{map}
use Rattle.cedar_schema_writer.proofs.Written.{WrittenSoFar}
use Rattle.cedar_schema_writer.proofs.parents.write_keys.Given as goal
use Rattle.cedar_schema_writer.specs.Parts.{known_names, plain_namespace}

abbrev pub invariant-loop-key : goal.invariant-loop-key
invariant-loop-key g l =
    WrittenSoFar (g.K.WrittenKey.IsUnambiguous (known_names l.known) (plain_namespace l.namespace)) (map g.K.WrittenKey.named l.keys.keys)
    (map g.K.WrittenKey.written l.parents.items) (map g.K.WrittenKey.named l.key-iterator)
