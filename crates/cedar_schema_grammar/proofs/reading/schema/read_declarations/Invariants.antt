use Rattle.std.proofs.Common.{◌≡◌, ◌-◌, map}
use Rattle.cedar_schema_grammar.specs.Reading.{declaration, while, while_from, before_close}
use Rattle.cedar_schema_grammar.specs.Plain.{declaration_of}
use Rattle.cedar_schema_grammar.proofs.reading.schema.read_declarations.Given as goal

abbrev pub invariant-loop-turn : goal.invariant-loop-turn
invariant-loop-turn l =
    while (declaration l.limit) before_close l.fn.tokens ≡ while_from (declaration l.limit) before_close (l._turn-end - l._turn) (map declaration_of l.found.items) l.tokens
