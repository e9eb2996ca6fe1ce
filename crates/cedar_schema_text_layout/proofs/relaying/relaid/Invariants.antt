use Rattle.std.proofs.Common.{◌≤◌, length}
use Rattle.cedar_schema_text_layout.specs.Relaid.{IsSoFar, before}
use Rattle.cedar_schema_text_layout.proofs.relaying.relaid.Given as goal

-- what stands before the place is taken over, at least one thing a turn
abbrev pub invariant-loop-turn : goal.invariant-loop-turn
invariant-loop-turn l =
    (l._turn ≤ l.at) × (l.at ≤ length l.pieces) × IsSoFar (before l.pieces l.at) l.relaying.edited
