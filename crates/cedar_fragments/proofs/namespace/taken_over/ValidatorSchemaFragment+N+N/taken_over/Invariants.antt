use Rattle.std.proofs.Common.{length}
use Rattle.std.specs.List.{AllByRecursion}
use Rattle.std.specs.Prelude.{⊤}
use Rattle.cedar_fragments.proofs.ListedFromEnd.{ListedFromEnd}
use Rattle.cedar_fragments.proofs.namespace.taken_over.ValidatorSchemaFragment+N+N.taken_over.Given as goal
use Rattle.cedar_fragments.specs.Words.{IsSound, definition_common_names, definition_namespaces, entry_common_names, entry_declarations, entry_namespace, entry_namespaces, located_namespace, written_definition}

abbrev pub invariant-loop-name : goal.invariant-loop-name
invariant-loop-name g l =
    ListedFromEnd (AllByRecursion IsSound) entry_declarations (written_definition g.row.N.Denot g.N.WrittenName.refer)
    l.fn.fragment.0.entries l.definitions.items l.named.entries
    × ListedFromEnd (λ _. ⊤) entry_common_names (definition_common_names g.row.N.Denot g.row.N.Denot)
    l.fn.fragment.0.entries l.definitions.items l.named.entries
    × ListedFromEnd (λ _. ⊤) entry_namespaces (definition_namespaces g.row.N.Denot g.row.N.Denot)
    l.fn.fragment.0.entries l.definitions.items l.named.entries
    × ListedFromEnd (λ _. ⊤) entry_namespace (located_namespace g.row.N.Denot g.row.N.Denot)
    l.fn.fragment.0.entries l.definitions.items l.named.entries

abbrev pub decreases-loop-name : goal.decreases-loop-name
decreases-loop-name g l = length l.named.entries
