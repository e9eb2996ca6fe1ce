use Rattle.std.proofs.Common.{◌≡◌, map, take}
use Rattle.cedar_ast.specs.Words.{eid_text}
use Rattle.cedar_schema_grammar.specs.Plain.{name_of}
use Rattle.cedar_schema_text.proofs.entity_types.eids.Given as goal

abbrev pub invariant-loop-text : goal.invariant-loop-text
invariant-loop-text l =
    map eid_text l.all.items ≡ map (λ x. x.text) (map name_of (take l.text-index l.texts))
