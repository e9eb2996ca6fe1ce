use Rattle.std.proofs.Common.{◌≡◌, ◌-◌, map}
use Rattle.cedar_schema_tokens.specs.declared.token.Symbol.TheVariants as sign
use Rattle.cedar_schema_grammar.specs.Reading.{path, until, until_from}
use Rattle.cedar_schema_grammar.specs.Plain.{path_of}
use Rattle.cedar_schema_grammar.proofs.reading.entities.read_listed_paths.Given as goal

abbrev pub invariant-loop-turn : goal.invariant-loop-turn
invariant-loop-turn l =
    until path sign.CloseBracket l.fn.tokens ≡ until_from path sign.CloseBracket (l._turn-end - l._turn) (map path_of l.found.items) l.tokens
