use Rattle.std.proofs.Common.{map, take, drop}
use Rattle.cedar_name_map.proofs.RisingLemmas.{Ahead}
use Rattle.cedar_types.proofs.entity_lub.EntityLUB.is_disjoint.Given as goal
use Rattle.cedar_types.specs.Words.{AreDisjoint, lub_names, lub_types, name_cmp, type_name}

abbrev pub invariant-loop-ty : goal.invariant-loop-ty
invariant-loop-ty l =
    AreDisjoint (map type_name (take l.ty-index l.ty-items)) (lub_names l.other)
    × Ahead type_name type_name name_cmp (lub_types l.other) l.at (drop l.ty-index l.ty-items)
