use Rattle.std.proofs.Common.{◌<◌, ◌≤◌, length}
use Rattle.cedar_schema_text_layout.specs.Relaid.{IsPathBetween}
use Rattle.cedar_schema_text_layout.proofs.relaying.path_end.Given as goal

abbrev pub invariant-loop-turn : goal.invariant-loop-turn
invariant-loop-turn l = (l.from < l.end) × (l.end ≤ length l.pieces) × IsPathBetween l.pieces l.from l.end
