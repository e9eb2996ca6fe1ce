use Rattle.std.proofs.Common.{◌⊎◌, Contains, map}
use Rattle.cedar_compare.proofs.lost_uids.lost_choices.Given as goal
use Rattle.cedar_compare.specs.Words.{AreLostSoFar, IsActionType, schema_of, type_name}

abbrev pub invariant-loop-name : goal.invariant-loop-name
invariant-loop-name l =
    AreLostSoFar (schema_of l.old) (schema_of l.new) (λ uid. IsActionType uid.ty ⊎ Contains (map type_name l.name-iterator) uid.ty) l.lost
