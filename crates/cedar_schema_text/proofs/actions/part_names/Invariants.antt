use Rattle.std.proofs.Common.{◌≡◌, map, take}
use Rattle.cedar_schema_grammar.specs.Plain.{part_of}
use Rattle.cedar_schema_text.specs.Named.{named}
use Rattle.cedar_schema_text.specs.Faults.{part_name}
use Rattle.cedar_schema_text.proofs.actions.part_names.Given as goal

abbrev pub invariant-loop-part : goal.invariant-loop-part
invariant-loop-part l =
    map named l.all.items ≡ map part_name (map part_of (take l.part-index l.parts))
