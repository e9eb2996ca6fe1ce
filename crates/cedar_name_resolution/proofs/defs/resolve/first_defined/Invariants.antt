use Rattle.std.proofs.Common.{map, take}
use Rattle.std.specs.List.{AllByRecursion}
use Rattle.cedar_name_resolution.proofs.defs.resolve.first_defined.Given as goal
use Rattle.cedar_name_resolution.specs.Words.{IsDefined, held_names, name_of}

abbrev pub invariant-loop-name : goal.invariant-loop-name
invariant-loop-name l =
    AllByRecursion (λ name. ¬ IsDefined (held_names l.all_defs) l.kind name) (map name_of (take l.name-index l.name-items))
