use Rattle.std.proofs.Common.{◌≡◌, ◌-◌, map, string_bytes}
use Rattle.cedar_schema_tokens.specs.declared.token.Symbol.TheVariants as sign
use Rattle.cedar_schema_grammar.specs.Reading.{id_text, separated, separated_from}
use Rattle.cedar_schema_grammar.proofs.reading.names.read_ids.Given as goal

abbrev pub invariant-loop-turn : goal.invariant-loop-turn
invariant-loop-turn l =
    separated id_text sign.PathSeparator l.fn.tokens ≡ separated_from id_text sign.PathSeparator (l._turn-end - l._turn) (map string_bytes l.found.items) l.tokens
