use Rattle.std.proofs.Common.{◌≡◌, ◌≤◌, length}
use Rattle.cedar_schema_text_layout.specs.Relaid.{before, tokens}
use Rattle.cedar_schema_text_layout.proofs.relaying.next_token.Given as goal

abbrev pub invariant-loop-turn : goal.invariant-loop-turn
invariant-loop-turn l =
    (l.from ≤ l.at) × (l.at ≤ length l.pieces) × (tokens (before l.pieces l.at) ≡ tokens (before l.pieces l.from))
