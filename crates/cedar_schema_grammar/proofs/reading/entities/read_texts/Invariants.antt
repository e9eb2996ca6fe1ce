use Rattle.std.proofs.Common.{◌≡◌, ◌-◌, map}
use Rattle.cedar_schema_tokens.specs.declared.token.Symbol.TheVariants as sign
use Rattle.cedar_schema_grammar.specs.Reading.{quoted, until, until_from}
use Rattle.cedar_schema_grammar.specs.Plain.{name_of}
use Rattle.cedar_schema_grammar.proofs.reading.entities.read_texts.Given as goal

abbrev pub invariant-loop-turn : goal.invariant-loop-turn
invariant-loop-turn l =
    until quoted sign.CloseBracket l.fn.tokens ≡ until_from quoted sign.CloseBracket (l._turn-end - l._turn) (map name_of l.found.items) l.tokens
