use Rattle.std.proofs.Common.{◌≤◌}
use Rattle.cedar_counterexample.proofs.Sizes.{fields_size, ty_size}
use Rattle.cedar_counterexample.specs.Words.{fields_from, fields_of, plain_attributes, ty_of}
use Rattle.schema_lines.proofs.spelled.+spelled.Given as goal

abbrev pub decreases-push_type : goal.decreases-push_type
decreases-push_type l = ty_size (ty_of l.ty.now)

abbrev pub decreases-push_attributes : goal.decreases-push_attributes
decreases-push_attributes l = fields_size (fields_of l.attrs.now)

-- the attributes that are left have no more parts than all
abbrev pub invariant-push_attributes-loop-name : goal.invariant-push_attributes-loop-name
invariant-push_attributes-loop-name l =
    fields_size (fields_from (plain_attributes l.name-iterator)) ≤ fields_size (fields_of l.attrs)
