use Rattle.std.proofs.Common.{◌≡◌, map, take}
use Rattle.cedar_ast.specs.Words.{name_of}
use Rattle.cedar_diagnosis.proofs.defined.with_names.Given as goal
use Rattle.cedar_name_resolution.specs.Words.{HasAlso, held_names}

abbrev pub invariant-loop-name : goal.invariant-loop-name
invariant-loop-name l =
    HasAlso (held_names l.defs).common (held_names l.fn.defs).common (map name_of (take l.name-index l.names))
    × ((held_names l.defs).entities ≡ (held_names l.fn.defs).entities)
    × ((held_names l.defs).actions ≡ (held_names l.fn.defs).actions)
