use Rattle.std.proofs.Common.{◌≡◌, map, take}
use Rattle.cedar_schema_text.specs.Here.{common_here}
use Rattle.cedar_schema_text.specs.Named.{named}
use Rattle.cedar_schema_text.proofs.declared.common_names.Given as goal

abbrev pub invariant-loop-common : goal.invariant-loop-common
invariant-loop-common l =
    map named l.all.items ≡ map (λ it. it.name) (map common_here (take l.common-index l.commons))
