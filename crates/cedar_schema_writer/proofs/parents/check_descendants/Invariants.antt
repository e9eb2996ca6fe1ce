use Rattle.std.proofs.Common.{List, map, Contains}
use Rattle.std.specs.Map.{keys_of}
use Rattle.cedar_schema_writer.proofs.Written.{WrittenSoFar}
use Rattle.cedar_schema_writer.proofs.parents.check_descendants.Given as goal

abbrev pub invariant-loop-lower : goal.invariant-loop-lower
invariant-loop-lower g l =
    (done : List g.V.SchemaNode.Name) × WrittenSoFar
    (λ lower. Contains (map g.V.SchemaNode.key_name (keys_of l.nodes.entries)) lower) (g.V.SchemaNode.below l.node) done
    (map g.V.SchemaNode.key_name l.lower-iterator)
