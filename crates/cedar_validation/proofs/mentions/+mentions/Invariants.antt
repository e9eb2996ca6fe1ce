use Rattle.cedar_validation.proofs.Walk.{Walked, fields_size, ty_size}
use Rattle.cedar_validation.proofs.mentions.+mentions.Given as goal
use Rattle.cedar_validation.specs.Words.{Knows, KnowsExtension, fields_from, fields_of, plain_attributes, ty_of}

abbrev pub decreases-check_type : goal.decreases-check_type
decreases-check_type l = ty_size (ty_of l.ty.now)

abbrev pub decreases-check_attributes : goal.decreases-check_attributes
decreases-check_attributes l = fields_size (fields_of l.attrs.now)

abbrev pub invariant-check_attributes-loop-name : goal.invariant-check_attributes-loop-name
invariant-check_attributes-loop-name l =
    Walked (Knows l.known) (KnowsExtension l.known) (fields_of l.attrs) (fields_from (plain_attributes l._name-iterator))
