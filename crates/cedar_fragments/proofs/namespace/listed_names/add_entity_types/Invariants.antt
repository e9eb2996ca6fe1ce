use Rattle.std.proofs.Common.{map, take}
use Rattle.cedar_fragments.proofs.namespace.listed_names.add_entity_types.Given as goal
use Rattle.cedar_fragments.specs.Words.{HasAlso, name_of, type_name}

abbrev pub invariant-loop-def : goal.invariant-loop-def
invariant-loop-def g l =
    HasAlso (map name_of l.names.items) (map name_of l.initial.names.items) (map (λ def. type_name def.name) (take l.def-index l.def-items))
