use Rattle.std.proofs.Common.{◌↔◌, Any, map}
use Rattle.std.specs.Slice.Iter.{iter_rest}
use Rattle.cedar_queries.proofs.possible.any_has_tags.Given as goal
use Rattle.cedar_queries.specs.Words.{HasTags, lub_names, plain_entry, type_name}

abbrev pub invariant-loop-member : goal.invariant-loop-member
invariant-loop-member l =
    Any (HasTags (map plain_entry l.types.entries)) (lub_names l.lub)
    ↔ Any (HasTags (map plain_entry l.types.entries)) (map type_name (iter_rest l.member-iterator))
