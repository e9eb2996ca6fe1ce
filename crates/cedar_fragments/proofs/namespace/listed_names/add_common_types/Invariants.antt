use Rattle.std.proofs.Common.{map, take}
use Rattle.cedar_fragments.proofs.namespace.listed_names.add_common_types.Given as goal
use Rattle.cedar_fragments.specs.Words.{HasAlso, name_of}

abbrev pub invariant-loop-def : goal.invariant-loop-def
invariant-loop-def g l =
    HasAlso (map name_of l.names.items) (map name_of l.initial.names.items) (map (λ def. name_of def.name) (take l.def-index l.def-items))
