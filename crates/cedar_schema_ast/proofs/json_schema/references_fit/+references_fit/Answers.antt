use Rattle.std.proofs.Common.{sym}
use Rattle.cedar_schema_ast.proofs.FitLemmas.{FitByRest-all}
use Rattle.cedar_schema_ast.proofs.json_schema.references_fit.+references_fit.Goals as goal

pub record_references_fit-loop-name-init : goal.record_references_fit-loop-name-init
record_references_fit-loop-name-init t c =
    FitByRest-all c.args.record_type.now _ (sym c.into_iter-name-iterator.ensures.into_iter_gives.0)
