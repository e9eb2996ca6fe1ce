use Rattle.std.proofs.Common.{◌≡◌, drop, map}
use Rattle.bench.proofs.piece.row_among.Given as goal
use Rattle.bench.specs.Words.{is_among, piece_name}

abbrev pub invariant-loop-row : goal.invariant-loop-row
invariant-loop-row l =
    is_among l.name (map piece_name l.rows) ≡ is_among l.name (map piece_name (drop l.row-index l.rows))
