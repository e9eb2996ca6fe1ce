use Rattle.std.proofs.Common.{◌≡◌, ◌++◌, map, take}
use Rattle.std.specs.List.{flat_map}
use Rattle.cedar_schema.proofs.common_types.with_definitions.Given as goal
use Rattle.cedar_schema.specs.Words.{common_types_to_show, definition_common_types, shown_common_type}

abbrev pub invariant-loop-definition : goal.invariant-loop-definition
invariant-loop-definition g l =
    map shown_common_type l.shown.items
    ≡ map shown_common_type l.fn.shown.items
    ++ flat_map (λ definition. common_types_to_show g.row.N.Denot (definition_common_types g.row.N.Denot g.row.A.Denot definition))
    (take l.definition-index l.definitions)
