use Rattle.std.proofs.Common.{◌≡◌, ◌-◌, map}
use Rattle.cedar_schema_tokens.specs.declared.token.Symbol.TheVariants as sign
use Rattle.cedar_schema_grammar.specs.Reading.{annotation, while, while_from, sees}
use Rattle.cedar_schema_grammar.specs.Plain.{name_of}
use Rattle.cedar_schema_grammar.proofs.reading.names.read_annotations.Given as goal

abbrev pub invariant-loop-turn : goal.invariant-loop-turn
invariant-loop-turn l =
    while annotation (sees sign.At) l.fn.tokens ≡ while_from annotation (sees sign.At) (l._turn-end - l._turn) (map name_of l.found.items) l.tokens
