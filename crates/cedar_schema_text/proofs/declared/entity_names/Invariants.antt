use Rattle.std.proofs.Common.{◌≡◌, map, take}
use Rattle.cedar_schema_text.specs.Here.{entity_here}
use Rattle.cedar_schema_text.specs.Named.{named}
use Rattle.cedar_schema_text.proofs.declared.entity_names.Given as goal

abbrev pub invariant-loop-entity : goal.invariant-loop-entity
invariant-loop-entity l =
    map named l.all.items ≡ map (λ it. it.name) (map entity_here (take l.entity-index l.entities))
