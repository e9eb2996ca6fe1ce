use Rattle.std.proofs.Common.{◌↔◌, Any, map}
use Rattle.std.specs.Slice.Iter.{iter_rest}
use Rattle.cedar_queries.proofs.possible.any_may_have.Given as goal
use Rattle.cedar_queries.specs.Words.{MemberMayHave, lub_names, plain_entry, type_name}

abbrev pub invariant-loop-member : goal.invariant-loop-member
invariant-loop-member l =
    Any (MemberMayHave (map plain_entry l.types.entries) l.name) (lub_names l.lub)
    ↔ Any (MemberMayHave (map plain_entry l.types.entries) l.name) (map type_name (iter_rest l.member-iterator))
