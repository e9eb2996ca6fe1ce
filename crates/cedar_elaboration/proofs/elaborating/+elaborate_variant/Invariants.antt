use Rattle.cedar_elaboration.proofs.RecordLemmas.{ElaboratedSoFar}
use Rattle.cedar_elaboration.proofs.elaborating.+elaborate_variant.Given as goal
use Rattle.cedar_elaboration.specs.Words.{namespace_name}

abbrev pub invariant-elaborate_attributes-loop-name : goal.invariant-elaborate_attributes-loop-name
invariant-elaborate_attributes-loop-name g l =
    ElaboratedSoFar g.row.N.Denot (g.N.WrittenName.refer (namespace_name l.namespace)) l.scope l.record_type l.attributes.items l.name-iterator
