use Rattle.std.proofs.Common.{◌++◌, List, take}
use Rattle.std.specs.List.{flat_map}
use Rattle.cedar_schema.proofs.namespaces.with_definitions.Given as goal
use Rattle.cedar_schema.specs.Words.{DefinedNamespace, HoldsNamespaces, definition_namespaces}

abbrev pub invariant-loop-definition : goal.invariant-loop-definition
invariant-loop-definition g l =
    (defined : List DefinedNamespace) → HoldsNamespaces defined l.fn.namespaces
    → HoldsNamespaces (defined ++ flat_map (definition_namespaces g.row.N.Denot g.row.A.Denot) (take l.definition-index l.definitions))
    l.namespaces
