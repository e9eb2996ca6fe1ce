use Rattle.std.proofs.Common.{◌≡◌, ◌-◌, map}
use Rattle.cedar_schema_tokens.specs.declared.token.Symbol.TheVariants as sign
use Rattle.cedar_schema_grammar.specs.Reading.{name, separated, separated_from}
use Rattle.cedar_schema_grammar.specs.Plain.{name_of}
use Rattle.cedar_schema_grammar.proofs.reading.names.read_name_list.Given as goal

abbrev pub invariant-loop-turn : goal.invariant-loop-turn
invariant-loop-turn l =
    separated name sign.Comma l.fn.tokens ≡ separated_from name sign.Comma (l._turn-end - l._turn) (map name_of l.found.items) l.tokens
