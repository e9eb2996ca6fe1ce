use Rattle.std.proofs.Common.{◌≢◌, map, take}
use Rattle.std.specs.Prelude.{AllPairs}
use Rattle.cedar_ast.proofs.type_names.are_distinct.Given as goal
use Rattle.cedar_ast.specs.Name.{plain_name}

abbrev pub invariant-loop-i : goal.invariant-loop-i
invariant-loop-i l = AllPairs (λ a b. a ≢ b) (map plain_name (take l.i l.names))
