use Rattle.std.proofs.Common.{◌≡◌, map, take}
use Rattle.cedar_schema_grammar.specs.Plain.{name_of}
use Rattle.cedar_schema_text.specs.Named.{named}
use Rattle.cedar_schema_text.proofs.once.names_of.Given as goal

abbrev pub invariant-loop-name : goal.invariant-loop-name
invariant-loop-name l =
    map named l.all.items ≡ map name_of (take l.name-index l.names)
