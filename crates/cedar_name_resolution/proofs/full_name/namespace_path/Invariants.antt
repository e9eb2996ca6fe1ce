use Rattle.std.proofs.Common.{◌≡◌, map, take}
use Rattle.cedar_ast.specs.Id.{id_text}
use Rattle.cedar_name_resolution.proofs.full_name.namespace_path.Given as goal

abbrev pub invariant-loop-part : goal.invariant-loop-part
invariant-loop-part l = map id_text l.path.items ≡ map id_text (take l.part-index l.part-items)
