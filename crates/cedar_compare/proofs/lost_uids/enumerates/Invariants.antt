use Rattle.std.proofs.Common.{map}
use Rattle.cedar_compare.proofs.LeftLemmas.{SureSoFar}
use Rattle.cedar_compare.proofs.lost_uids.enumerates.Given as goal
use Rattle.cedar_compare.specs.Words.{IsEnumerated, ValidatorEntityType, entity_type_of, schema_entries}

abbrev pub invariant-loop-ty : goal.invariant-loop-ty
invariant-loop-ty l =
    SureSoFar (λ (it : ValidatorEntityType). ¬ IsEnumerated (entity_type_of it).kind) (map (λ entry. entry.1) (schema_entries l.schema)) l.ty-iterator
