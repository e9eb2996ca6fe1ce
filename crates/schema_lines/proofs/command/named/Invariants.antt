use Rattle.std.proofs.Common.{◌≡◌, drop, map}
use Rattle.schema_lines.proofs.command.named.Given as goal
use Rattle.schema_lines.specs.Words.{is_among, row_name}

abbrev pub invariant-loop-row : goal.invariant-loop-row
invariant-loop-row g l = is_among l.name (map row_name l.rows) ≡ is_among l.name (map row_name (drop l.row-index l.rows))
