use Rattle.std.proofs.Common.{map}
use Rattle.cedar_schema_elements.proofs.NamedTypes.{NamedSoFar}
use Rattle.cedar_schema_elements.proofs.qualified.named_types.Given as goal
use Rattle.cedar_schema_elements.specs.Words.{held_names, type_name}

abbrev pub invariant-loop-reference : goal.invariant-loop-reference
invariant-loop-reference l =
    NamedSoFar (held_names l.all_defs) l.fn.references.keys (map type_name l.types.keys) l.reference-iterator
