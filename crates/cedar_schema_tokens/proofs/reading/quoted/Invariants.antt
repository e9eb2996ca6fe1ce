use Rattle.std.proofs.Common.{◌≡◌, ◌-◌, length, string_bytes}
use denote.Text.{Utf8}
use denote.Shadow.{shadow}
use Rattle.cedar_schema_tokens.specs.Lexical.{quoted, quoted_from}
use Rattle.cedar_schema_tokens.proofs.reading.quoted.Given as goal

abbrev pub invariant-turn : goal.invariant-turn
invariant-turn l = shadow (Utf8 l.rest) × (quoted l.s ≡ quoted_from (length l.s) (l._turn-end - l._turn) (string_bytes l.found) l.rest)
