use Rattle.std.proofs.Common.{◌≡◌, ◌+◌, ◌*◌, ◌-◌, map}
use Rattle.cedar_schema_tokens.specs.declared.token.Symbol.TheVariants as sign
use Rattle.cedar_schema_grammar.specs.Reading.{type_at, attribute_with, until, until_from}
use Rattle.cedar_schema_grammar.specs.Plain.{attribute_of}
use Rattle.cedar_schema_grammar.proofs.reading.types.+types.Given as goal

abbrev pub decreases-read_type : goal.decreases-read_type
decreases-read_type l = 3 * l.limit

abbrev pub decreases-read_attributes : goal.decreases-read_attributes
decreases-read_attributes l = 3 * l.limit + 2

abbrev pub decreases-read_attribute : goal.decreases-read_attribute
decreases-read_attribute l = 3 * l.limit + 1

abbrev pub invariant-read_attributes-loop-turn : goal.invariant-read_attributes-loop-turn
invariant-read_attributes-loop-turn l =
    until (attribute_with (type_at l.limit)) sign.CloseBrace l.fn.tokens
    ≡ until_from (attribute_with (type_at l.limit)) sign.CloseBrace (l._turn-end - l._turn) (map attribute_of l.found.items) l.tokens
