use Rattle.std.proofs.Common.{map, string_bytes}
use Rattle.cedar_ast.specs.Words.{entries_from, entries_of, tree_of}
use Rattle.cedar_conformance.proofs.EntryWalk.{EntriesSoFar, NamingSoFar}
use Rattle.cedar_conformance.proofs.naming.+naming.Given as goal
use Rattle.cedar_entities.specs.Words.{Exists}
use Rattle.cedar_schema.specs.Words.{schema_of}

abbrev pub invariant-element_naming-loop-index : goal.invariant-element_naming-loop-index
invariant-element_naming-loop-index l = NamingSoFar (Exists (schema_of l.existing.schema.now)) l.values l.index

abbrev pub invariant-entry_naming-loop-name : goal.invariant-entry_naming-loop-name
invariant-entry_naming-loop-name l =
    EntriesSoFar (Exists (schema_of l.existing.schema.now)) (entries_of l.values)
    (entries_from (map (λ entry. (string_bytes entry.0, tree_of entry.1)) l.name-iterator))
