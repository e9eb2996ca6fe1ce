use Rattle.std.proofs.Common.{◌≡◌, ◌++◌, map, take}
use Rattle.cedar_diagnosis.proofs.positions.add_names.Given as goal
use Rattle.cedar_diagnosis.specs.Mentioned.{reference_of}
use Rattle.cedar_schema_ast.specs.Words.{namespace_name, raw_reference}
use Rattle.cedar_schema_semantics.specs.Words.{Entity}

abbrev pub invariant-loop-name : goal.invariant-loop-name
invariant-loop-name l =
    map reference_of l.found.items
    ≡ map reference_of l.fn.found.items ++ map (raw_reference (namespace_name l.namespace) Entity) (take l.name-index l.names)
