use Rattle.std.proofs.Common.{◌+◌}
use Rattle.cedar_conformance.proofs.MismatchLemmas.{ElementsSoFar, FieldsSoFar}
use Rattle.cedar_conformance.proofs.mismatch.+mismatch.Given as goal
use Rattle.cedar_counterexample.proofs.Sizes.{fields_size, ty_size}
use Rattle.cedar_types.specs.Words.{attribute_of, entries_of, fields_from, fields_of, plain_attributes, ty_of}

abbrev pub decreases-type_fault : goal.decreases-type_fault
decreases-type_fault l = ty_size (ty_of l.ty.now)

abbrev pub decreases-element_fault : goal.decreases-element_fault
decreases-element_fault l = ty_size (ty_of l.ty.now) + 1

abbrev pub decreases-attribute_fault : goal.decreases-attribute_fault
decreases-attribute_fault l = ty_size (attribute_of l.attribute.now).1 + 1

abbrev pub decreases-fields_fault : goal.decreases-fields_fault
decreases-fields_fault l = fields_size (fields_of l.attrs.now) + 2

abbrev pub decreases-record_fault : goal.decreases-record_fault
decreases-record_fault l = fields_size (fields_of l.attrs.now) + 3

abbrev pub invariant-element_fault-loop-index : goal.invariant-element_fault-loop-index
invariant-element_fault-loop-index l =
    ElementsSoFar l.search.extensions.now (ty_of l.ty) l.values l.index

abbrev pub invariant-fields_fault-loop-name : goal.invariant-fields_fault-loop-name
invariant-fields_fault-loop-name l =
    FieldsSoFar l.search.extensions.now (entries_of l.values) (fields_of l.attrs)
    (fields_from (plain_attributes l.name-iterator))
