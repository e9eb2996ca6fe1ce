use Rattle.std.proofs.Common.{◌≡◌, ◌-◌, map}
use Rattle.cedar_schema_tokens.specs.declared.token.Symbol.TheVariants as sign
use Rattle.cedar_schema_grammar.specs.Reading.{part, until, until_from}
use Rattle.cedar_schema_grammar.specs.Plain.{part_of}
use Rattle.cedar_schema_grammar.proofs.reading.actions.read_parts.Given as goal

abbrev pub invariant-loop-turn : goal.invariant-loop-turn
invariant-loop-turn l =
    until (part l.limit) sign.CloseBrace l.fn.tokens ≡ until_from (part l.limit) sign.CloseBrace (l._turn-end - l._turn) (map part_of l.found.items) l.tokens
