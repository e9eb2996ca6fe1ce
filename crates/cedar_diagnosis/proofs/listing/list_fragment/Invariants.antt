use Rattle.cedar_diagnosis.proofs.ListedSoFar.{ListedSoFar}
use Rattle.cedar_diagnosis.proofs.listing.list_fragment.Given as goal
use Rattle.cedar_diagnosis.specs.Lent.{declarations_of, namespace_of}
use Rattle.cedar_schema_ast.specs.Words.{raw_declarations}

abbrev pub invariant-loop-namespace : goal.invariant-loop-namespace
invariant-loop-namespace l =
    ListedSoFar (λ entry. raw_declarations (namespace_of entry.0) entry.1)
    (declarations_of l.fn.listed.items) l.fragment.0.entries (declarations_of l.listed.items) l.namespace-iterator
