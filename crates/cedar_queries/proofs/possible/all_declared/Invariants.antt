use Rattle.std.proofs.Common.{◌↔◌, map, All}
use Rattle.std.specs.Slice.Iter.{iter_rest}
use Rattle.cedar_queries.proofs.possible.all_declared.Given as goal
use Rattle.cedar_queries.specs.Words.{IsDeclared, lub_names, plain_entry, type_name}

abbrev pub invariant-loop-member : goal.invariant-loop-member
invariant-loop-member l =
    All (IsDeclared (map plain_entry l.types.entries)) (lub_names l.lub)
    ↔ All (IsDeclared (map plain_entry l.types.entries)) (map type_name (iter_rest l.member-iterator))
