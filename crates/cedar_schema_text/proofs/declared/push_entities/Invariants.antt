use Rattle.std.proofs.Common.{◌≡◌, ◌++◌, map, take}
use Rattle.cedar_schema_grammar.specs.Plain.{body_of, name_of}
use Rattle.cedar_schema_grammar.specs.Tree.{entity}
use Rattle.cedar_schema_text.specs.Here.{entity_here}
use Rattle.cedar_schema_text.specs.Meaning.{entities_of}
use Rattle.cedar_schema_text.proofs.declared.push_entities.Given as goal

abbrev pub invariant-loop-name : goal.invariant-loop-name
invariant-loop-name l =
    map entity_here l.all.items
    ≡ map entity_here l.fn.all.items ++ entities_of (entity l.external (map name_of (take l.name-index l.names)) (body_of l.body))
