use Rattle.std.proofs.Common.{◌≡◌, map, take}
use Rattle.cedar_name_resolution.proofs.defined.with_common_types.Given as goal
use Rattle.cedar_name_resolution.specs.Words.{HasAlso, held_names, name_of}

abbrev pub invariant-loop-it : goal.invariant-loop-it
invariant-loop-it g l =
    HasAlso (held_names l.defs).common (held_names l.fn.defs).common (map (λ it. name_of it.0) (take l.it-index l.types))
    × ((held_names l.defs).entities ≡ (held_names l.fn.defs).entities)
    × ((held_names l.defs).actions ≡ (held_names l.fn.defs).actions)
