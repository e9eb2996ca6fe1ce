use Rattle.std.proofs.Common.{sym}
use Rattle.cedar_schema_ast.proofs.NestingLemmas.{within_all}
use Rattle.cedar_schema_ast.proofs.json_schema.nesting.+nesting.Goals as goal

pub record_is_within-loop-name-init : goal.record_is_within-loop-name-init
record_is_within-loop-name-init g t c =
    within_all g.row.N.Denot c.args.record_type.now c.args.levels _ (sym c.into_iter-name-iterator.ensures.into_iter_gives.0)
