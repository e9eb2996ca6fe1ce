use Rattle.std.proofs.Common.{◌≡◌, [], map, take}
use Rattle.std.specs.List.{flat_map}
use Rattle.cedar_schema_text.specs.Faults.{noted_faults}
use Rattle.cedar_schema_text.specs.Here.{lent}
use Rattle.cedar_schema_text.proofs.definition.check_noted.Given as goal

abbrev pub invariant-loop-declaration : goal.invariant-loop-declaration
invariant-loop-declaration l =
    flat_map noted_faults (map lent (take l.declaration-index l.declarations)) ≡ []
