use Rattle.std.proofs.Common.{map}
use Rattle.std.specs.Slice.Iter.{iter_rest}
use Rattle.cedar_counterexample.proofs.NamingLemmas.{UidsSoFar}
use Rattle.cedar_counterexample.proofs.naming.lost_of_union.Given as goal
use Rattle.cedar_counterexample.specs.Words.{lub_names, type_name}

abbrev pub invariant-loop-ty : goal.invariant-loop-ty
invariant-loop-ty g l =
    UidsSoFar (g.S.Scope.ExistsInOld l.scope) (g.S.Scope.ExistsInNew l.scope) (lub_names l.lub) (map type_name (iter_rest l.ty-iterator))
