use Rattle.std.proofs.Common.{◌≡◌, map, take}
use Rattle.cedar_schema_grammar.specs.Plain.{name_of}
use Rattle.cedar_schema_text.specs.Named.{named}
use Rattle.cedar_schema_text.proofs.types.attribute_names.Given as goal

abbrev pub invariant-loop-attribute : goal.invariant-loop-attribute
invariant-loop-attribute l =
    map named l.all.items ≡ map (λ a. name_of a.name) (take l.attribute-index l.written)
