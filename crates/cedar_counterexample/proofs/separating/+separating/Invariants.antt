use Rattle.std.proofs.Common.{◌+◌}
use Rattle.cedar_counterexample.proofs.Sizes.{fields_size, ty_size}
use Rattle.cedar_counterexample.proofs.StartLemmas.{CounterexampleSoFar}
use Rattle.cedar_counterexample.proofs.separating.+separating.Given as goal
use Rattle.cedar_counterexample.specs.Words.{attribute_of, fields_from, fields_of, plain_attributes, ty_of}

abbrev pub decreases-separating_field : goal.decreases-separating_field
decreases-separating_field l = ty_size (attribute_of l.attribute.now).1 + 1

abbrev pub decreases-separating_attribute : goal.decreases-separating_attribute
decreases-separating_attribute l = fields_size (fields_of l.upper.now) + 1

abbrev pub decreases-separating_start : goal.decreases-separating_start
decreases-separating_start l = fields_size (fields_of l.upper.now) + 2

abbrev pub decreases-separating_values : goal.decreases-separating_values
decreases-separating_values l = fields_size (fields_of l.upper.now) + 3

abbrev pub decreases-separating_record : goal.decreases-separating_record
decreases-separating_record l = fields_size (fields_of l.upper.now) + 4

abbrev pub decreases-separating_set : goal.decreases-separating_set
decreases-separating_set l = ty_size (ty_of l.upper.now) + 1

abbrev pub decreases-separating_expr : goal.decreases-separating_expr
decreases-separating_expr l = ty_size (ty_of l.b.now)

abbrev pub invariant-separating_attribute-loop-name : goal.invariant-separating_attribute-loop-name
invariant-separating_attribute-loop-name l =
    CounterexampleSoFar (fields_of l.lower) l.openness (fields_of l.upper) (fields_from (plain_attributes l.name-iterator))
