use Rattle.std.proofs.Common.{drop, ◌+◌, ◌*◌}
use Rattle.cedar_types.proofs.+member.Given as goal
use Rattle.cedar_types.proofs.EntriesLeftSteps.{Serves}
use Rattle.cedar_types.proofs.MemberParts.{ElementsSoFar, FieldsSoFar}
use Rattle.cedar_types.specs.Words.{entries_left, entries_of, fields_from, fields_of, plain_attributes, size-Attributes, size-Type, trees_of, ty_of}

abbrev pub decreases-types::Type::typecheck_restricted_expr : goal.decreases-types::Type::typecheck_restricted_expr
decreases-types::Type::typecheck_restricted_expr l = 2 * size-Type l.self.now

abbrev pub decreases-member::elements_have : goal.decreases-member::elements_have
decreases-member::elements_have l = 2 * size-Type l.ty.now + 1

abbrev pub decreases-member::fields_have : goal.decreases-member::fields_have
decreases-member::fields_have l = 2 * size-Attributes l.attrs.now

abbrev pub invariant-member::elements_have-loop-value : goal.invariant-member::elements_have-loop-value
invariant-member::elements_have-loop-value l =
    ElementsSoFar l.extensions (ty_of l.ty) (trees_of l.values) (trees_of (drop l.value-index l.values)) l.so_far

abbrev pub invariant-member::fields_have-loop-name : goal.invariant-member::fields_have-loop-name
invariant-member::fields_have-loop-name l =
    FieldsSoFar l.extensions (entries_of l.values) (fields_of l.attrs) (fields_from (plain_attributes (drop l.name-index l.name-items))) l.so_far
    × Serves l.values.entries (entries_left l.left) (drop l.name-index l.name-items)
