use Rattle.std.proofs.Common.{◌≡◌, ◌-◌}
use denote.Text.{Utf8}
use denote.Shadow.{shadow}
use Rattle.cedar_schema_tokens.specs.Spelled.{after_blanks, blanks_from}
use Rattle.cedar_schema_tokens.proofs.spelled.after_blanks.Given as goal

abbrev pub invariant-loop-turn : goal.invariant-loop-turn
invariant-loop-turn l = shadow (Utf8 l.rest) × (after_blanks l.s ≡ blanks_from (l._turn-end - l._turn) l.rest)
