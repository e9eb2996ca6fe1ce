use Rattle.std.proofs.Common.{◌↔◌, map}
use Rattle.std.specs.Slice.Iter.{iter_rest}
use Rattle.cedar_name_map.proofs.RisingLemmas.{Ahead}
use Rattle.cedar_types.proofs.subtype.is_included.Given as goal
use Rattle.cedar_types.specs.Words.{Included, lub_names, lub_types, name_cmp, type_name}

abbrev pub invariant-loop-ty : goal.invariant-loop-ty
invariant-loop-ty l =
    (Included (map type_name (iter_rest l.ty-iterator)) (lub_names l.upper) ↔ Included (lub_names l.lower) (lub_names l.upper))
    × Ahead type_name type_name name_cmp (lub_types l.upper) l.at (iter_rest l.ty-iterator)
