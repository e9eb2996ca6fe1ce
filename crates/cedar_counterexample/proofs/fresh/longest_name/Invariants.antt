use Rattle.std.proofs.Common.{map, string_bytes}
use Rattle.cedar_counterexample.proofs.FreshLemmas.{LongestSoFar}
use Rattle.cedar_counterexample.proofs.fresh.longest_name.Given as goal
use Rattle.cedar_counterexample.specs.Words.{Text, field_names, fields_of}

abbrev pub invariant-loop-name : goal.invariant-loop-name
invariant-loop-name l =
    LongestSoFar (λ (name : Text). name) (field_names (fields_of l.attrs)) (map string_bytes l.name-iterator) l.longest
