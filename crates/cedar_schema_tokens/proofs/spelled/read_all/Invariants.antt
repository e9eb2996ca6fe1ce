use Rattle.std.proofs.Common.{◌+◌, ◌≤◌, length, map}
use denote.Text.{Utf8}
use denote.Shadow.{shadow}
use Rattle.cedar_schema_tokens.specs.Spelled.{spelled_of}
use Rattle.cedar_schema_tokens.proofs.Spellings.{KeepsTokens, Leads}
use Rattle.cedar_schema_tokens.proofs.spelled.read_all.Given as goal

-- what was found leads to what is left, of which at most so many bytes are, as turns
abbrev pub invariant-loop-turn : goal.invariant-loop-turn
invariant-loop-turn l =
    shadow (Utf8 l.rest) × (length l.rest + l._turn ≤ length l.text)
    × Leads (map spelled_of l.found.items) l.text l.rest × KeepsTokens l.text l.rest
