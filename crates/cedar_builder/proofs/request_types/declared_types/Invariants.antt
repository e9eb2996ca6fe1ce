use Rattle.std.proofs.Common.{map, take}
use Rattle.cedar_builder.proofs.RequestTypes.{AllPlaced}
use Rattle.cedar_builder.proofs.request_types.declared_types.Given as goal
use Rattle.cedar_builder.specs.Words.{AreNamed, Entity, held_names, names_in, namespace_name, type_name}

abbrev pub invariant-loop-name : goal.invariant-loop-name
invariant-loop-name g l =
    AreNamed (held_names l.defs) (map (g.N.WrittenName.refer (namespace_name l.namespace) Entity) (take l.name-index l.names))
    (map type_name l.types.items)
    × AllPlaced (held_names l.defs) (names_in l.entity_types)
    (map (g.N.WrittenName.refer (namespace_name l.namespace) Entity) (take l.name-index l.names))
