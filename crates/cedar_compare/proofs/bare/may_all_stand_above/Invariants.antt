use Rattle.std.proofs.Common.{map}
use Rattle.cedar_compare.proofs.LeftLemmas.{SureSoFar}
use Rattle.cedar_compare.proofs.bare.may_all_stand_above.Given as goal
use Rattle.cedar_compare.specs.Words.{MayStandOver, entity_ancestors, entity_uid, schema_of, uid_of}

abbrev pub invariant-loop-upper : goal.invariant-loop-upper
invariant-loop-upper l =
    SureSoFar (MayStandOver (schema_of l.schema) (entity_uid l.entity)) (entity_ancestors l.entity) (map uid_of l.upper-iterator)
