use Rattle.std.proofs.Common.{◌≡◌, map, take}
use Rattle.cedar_ast.specs.EntityType.{type_name}
use Rattle.cedar_types.proofs.entity_lub.clone_each.Given as goal

abbrev pub invariant-loop-ty : goal.invariant-loop-ty
invariant-loop-ty l = map type_name l.copy.items ≡ map type_name (take l.ty-index l.ty-items)
