use Rattle.std.proofs.Common.{◌≡◌, map, take}
use Rattle.cedar_ast.proofs.non_empty.clone_ids.Given as goal
use Rattle.cedar_ast.specs.Eid.{eid_text}

abbrev pub invariant-loop-id : goal.invariant-loop-id
invariant-loop-id l = map eid_text l.copy.items ≡ map eid_text (take l.id-index l.id-items)
