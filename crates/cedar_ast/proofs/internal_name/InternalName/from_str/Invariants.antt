use Rattle.std.proofs.Common.{map, take, string_bytes}
use Rattle.cedar_ast.proofs.NameReading.{HasRead}
use Rattle.cedar_ast.proofs.internal_name.InternalName.from_str.Given as goal
use Rattle.cedar_ast.specs.Id.{id_text}

abbrev pub invariant-loop-at : goal.invariant-loop-at
invariant-loop-at l = HasRead l.reading (map id_text l.path.items) (string_bytes l.part) (take l.at l.byte-items)
