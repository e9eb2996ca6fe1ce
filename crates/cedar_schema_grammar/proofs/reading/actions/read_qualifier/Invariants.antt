use Rattle.std.proofs.Common.{◌≡◌, ◌-◌, map, string_bytes}
use Rattle.cedar_schema_grammar.specs.Reading.{qualifier, qualifier_from}
use Rattle.cedar_schema_grammar.specs.Plain.{name_of}
use Rattle.cedar_schema_grammar.proofs.reading.actions.read_qualifier.Given as goal

abbrev pub invariant-loop-turn : goal.invariant-loop-turn
invariant-loop-turn l =
    qualifier (name_of l.fn.first) l.fn.tokens ≡ qualifier_from l.from (l._turn-end - l._turn) (map string_bytes l.ids.items) l.last l.tokens
