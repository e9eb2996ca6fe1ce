use Rattle.std.proofs.Common.{map}
use Rattle.std.specs.Slice.Iter.{iter_rest}
use Rattle.cedar_counterexample.proofs.NameLists.{IncludedSoFar}
use Rattle.cedar_counterexample.proofs.unions.separating_type.Given as goal
use Rattle.cedar_counterexample.specs.Words.{lub_names, type_name}

abbrev pub invariant-loop-ty : goal.invariant-loop-ty
invariant-loop-ty l = IncludedSoFar (lub_names l.lower) (lub_names l.upper) (map type_name (iter_rest l.ty-iterator))
