use Rattle.std.proofs.Common.{map}
use Rattle.std.specs.Slice.Iter.{iter_rest}
use Rattle.cedar_counterexample.proofs.FreshLemmas.{LongestSoFar}
use Rattle.cedar_counterexample.proofs.fresh.longest_base.Given as goal
use Rattle.cedar_counterexample.specs.Words.{PlainName, lub_names, type_name}

abbrev pub invariant-loop-ty : goal.invariant-loop-ty
invariant-loop-ty l =
    LongestSoFar (λ (name : PlainName). name.base) (lub_names l.lub) (map type_name (iter_rest l.ty-iterator)) l.longest
