use Rattle.std.proofs.Common.{◌≡◌, map, take}
use Rattle.cedar_schema_elements.proofs.type_set.TypeSet.clone.Given as goal
use Rattle.cedar_schema_elements.specs.Words.{type_name}

abbrev pub invariant-loop-ty : goal.invariant-loop-ty
invariant-loop-ty l = map type_name l.types.items ≡ map type_name (take l.ty-index l.ty-items)
