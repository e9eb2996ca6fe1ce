use Rattle.std.proofs.Common.{◌≡◌, ◌++◌, map}
use Rattle.std.specs.Slice.Iter.{iter_rest}
use Rattle.cedar_queries.proofs.known.open_records.Given as goal
use Rattle.cedar_queries.specs.Words.{lub_names, open_record, plain_entry, ty_of, type_name}

abbrev pub invariant-loop-ty : goal.invariant-loop-ty
invariant-loop-ty l =
    map ty_of l.records.items ++ map (open_record (map plain_entry l.types.entries)) (map type_name (iter_rest l.ty-iterator))
    ≡ map (open_record (map plain_entry l.types.entries)) (lub_names l.lub)
