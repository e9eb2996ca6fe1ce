use Rattle.std.proofs.Common.{◌≡◌, ◌-◌, map}
use Rattle.cedar_schema_tokens.specs.declared.token.Symbol.TheVariants as sign
use Rattle.cedar_schema_grammar.specs.Reading.{parent, until, until_from}
use Rattle.cedar_schema_grammar.specs.Plain.{parent_of}
use Rattle.cedar_schema_grammar.proofs.reading.actions.read_listed_parents.Given as goal

abbrev pub invariant-loop-turn : goal.invariant-loop-turn
invariant-loop-turn l =
    until parent sign.CloseBracket l.fn.tokens ≡ until_from parent sign.CloseBracket (l._turn-end - l._turn) (map parent_of l.found.items) l.tokens
