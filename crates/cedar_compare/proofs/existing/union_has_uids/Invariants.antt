use Rattle.std.proofs.Common.{map}
use Rattle.std.specs.Slice.Iter.{iter_rest}
use Rattle.cedar_compare.proofs.LeftLemmas.{SureSoFar}
use Rattle.cedar_compare.proofs.existing.union_has_uids.Given as goal
use Rattle.cedar_compare.specs.Words.{Exists, HasUidOf, lub_names, schema_of, type_name}

abbrev pub invariant-loop-name : goal.invariant-loop-name
invariant-loop-name l =
    SureSoFar (HasUidOf (Exists (schema_of l.schema))) (lub_names l.lub) (map type_name (iter_rest l.name-iterator))
