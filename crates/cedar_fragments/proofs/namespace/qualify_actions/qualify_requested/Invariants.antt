use Rattle.std.proofs.Common.{map, take}
use Rattle.std.specs.List.{AllByRecursion}
use Rattle.cedar_fragments.proofs.namespace.qualify_actions.qualify_requested.Given as goal
use Rattle.cedar_fragments.specs.Words.{IsReserved, name_of}

abbrev pub invariant-loop-name : goal.invariant-loop-name
invariant-loop-name g l = AllByRecursion (λ name. ¬ IsReserved name) (map name_of (take l.name-index l.name-items))
