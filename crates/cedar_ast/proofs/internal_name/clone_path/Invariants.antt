use Rattle.std.proofs.Common.{◌≡◌, map, take}
use Rattle.cedar_ast.proofs.internal_name.clone_path.Given as goal
use Rattle.cedar_ast.specs.Id.{id_text}

abbrev pub invariant-loop-part : goal.invariant-loop-part
invariant-loop-part l = map id_text l.copy.items ≡ map id_text (take l.part-index l.part-items)
