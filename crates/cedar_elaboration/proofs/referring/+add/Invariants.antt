use Rattle.cedar_elaboration.proofs.ReferringLemmas.{AddedSoFar}
use Rattle.cedar_elaboration.proofs.referring.+add.Given as goal
use Rattle.cedar_elaboration.specs.Words.{held_names, indexed_names, namespace_name}

abbrev pub invariant-add_record_indices-loop-attribute : goal.invariant-add_record_indices-loop-attribute
invariant-add_record_indices-loop-attribute g l =
    AddedSoFar (held_names l.scope.defs.now) (indexed_names l.scope.indices.now) g.row.N.Denot
    (g.N.WrittenName.refer (namespace_name l.scope.namespace)) l.record_type l.fn.found.items l.found.items l.attribute-iterator
