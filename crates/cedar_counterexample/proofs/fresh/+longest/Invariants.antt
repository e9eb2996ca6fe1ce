use Rattle.std.proofs.Common.{◌≤◌, ◌⊎◌, length}
use Rattle.cedar_counterexample.proofs.FreshLemmas.{MentionedSoFar}
use Rattle.cedar_counterexample.proofs.Sizes.{fields_size, ty_size}
use Rattle.cedar_counterexample.proofs.fresh.+longest.Given as goal
use Rattle.cedar_counterexample.specs.Words.{fields_from, fields_of, plain_attributes, ty_of}

abbrev pub decreases-longest_in : goal.decreases-longest_in
decreases-longest_in l = ty_size (ty_of l.ty.now)

abbrev pub decreases-longest_in_attributes : goal.decreases-longest_in_attributes
decreases-longest_in_attributes l = fields_size (fields_of l.attrs.now)

abbrev pub invariant-longest_in_attributes-loop-attribute : goal.invariant-longest_in_attributes-loop-attribute
invariant-longest_in_attributes-loop-attribute l =
    MentionedSoFar (fields_of l.attrs) (fields_from (plain_attributes l.attribute-iterator)) l.longest
