use Rattle.std.proofs.Common.{◌≡◌, true, take}
use Rattle.std.specs.List.{list_all}
use Rattle.cedar_ast.proofs.id.stop.Given as goal
use Rattle.cedar_ast.specs.Identifier.{is_identifier_byte}

abbrev pub invariant-loop-at : goal.invariant-loop-at
invariant-loop-at l = list_all is_identifier_byte (take l.at l.text) ≡ true
