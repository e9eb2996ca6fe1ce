use Rattle.std.proofs.Common.{◌+◌}
use Rattle.cedar_counterexample.proofs.NamingLemmas.{NamingSoFar}
use Rattle.cedar_counterexample.proofs.Sizes.{fields_size, ty_size}
use Rattle.cedar_counterexample.proofs.naming.+naming.Given as goal
use Rattle.cedar_counterexample.specs.Words.{fields_from, fields_of, plain_attributes, ty_of}

abbrev pub decreases-naming_attribute : goal.decreases-naming_attribute
decreases-naming_attribute g l = fields_size (fields_of l.attrs.now) + 1

abbrev pub decreases-naming_names : goal.decreases-naming_names
decreases-naming_names g l = fields_size (fields_of l.attrs.now) + 2

abbrev pub decreases-naming_attributes : goal.decreases-naming_attributes
decreases-naming_attributes g l = fields_size (fields_of l.attrs.now) + 3

abbrev pub decreases-naming_record : goal.decreases-naming_record
decreases-naming_record g l = fields_size (fields_of l.attrs.now) + 4

abbrev pub decreases-naming_set : goal.decreases-naming_set
decreases-naming_set g l = ty_size (ty_of l.ty.now) + 1

abbrev pub decreases-naming_value : goal.decreases-naming_value
decreases-naming_value g l = ty_size (ty_of l.ty.now)

abbrev pub invariant-naming_attribute-loop-name : goal.invariant-naming_attribute-loop-name
invariant-naming_attribute-loop-name g l =
    NamingSoFar (g.S.Scope.ExistsInOld l.scope) (g.S.Scope.ExistsInNew l.scope) (fields_of l.attrs)
    (fields_from (plain_attributes l.name-iterator))
