use Rattle.std.proofs.Common.{map}
use Rattle.cedar_compare.proofs.LeftLemmas.{SureSoFar}
use Rattle.cedar_compare.proofs.existing.some_action.Given as goal
use Rattle.cedar_compare.specs.Words.{IsExistingOf, PlainUid, schema_of, type_name, uid_of}

abbrev pub invariant-loop-uid : goal.invariant-loop-uid
invariant-loop-uid l =
    SureSoFar (λ (uid : PlainUid). ¬ IsExistingOf (schema_of l.schema) (type_name l.name) uid) (map (λ it. it.0) (schema_of l.schema).actions)
    (map uid_of l.uid-iterator)
