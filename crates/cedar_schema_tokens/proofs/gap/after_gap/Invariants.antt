use Rattle.std.proofs.Common.{◌≡◌, ◌-◌}
use denote.Text.{Utf8}
use denote.Shadow.{shadow}
use Rattle.cedar_schema_tokens.specs.Lexical.{gap_from, after_gap}
use Rattle.cedar_schema_tokens.proofs.gap.after_gap.Given as goal

abbrev pub invariant-loop-turn : goal.invariant-loop-turn
invariant-loop-turn l = shadow (Utf8 l.rest) × (after_gap l.s ≡ gap_from (l._turn-end - l._turn) l.rest)
