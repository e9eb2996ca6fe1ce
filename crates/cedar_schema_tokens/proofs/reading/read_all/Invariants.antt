use Rattle.std.proofs.Common.{◌≡◌, ◌-◌, length, map}
use denote.Text.{Utf8}
use denote.Shadow.{shadow}
use Rattle.cedar_schema_tokens.specs.Token.{token_of}
use Rattle.cedar_schema_tokens.specs.Lexical.{tokens, tokens_from}
use Rattle.cedar_schema_tokens.proofs.reading.read_all.Given as goal

abbrev pub invariant-loop-turn : goal.invariant-loop-turn
invariant-loop-turn l =
    shadow (Utf8 l.rest) × (tokens l.source l.text ≡ tokens_from l.source (length l.text) (l._turn-end - l._turn) (map token_of l.found.items) l.rest)
