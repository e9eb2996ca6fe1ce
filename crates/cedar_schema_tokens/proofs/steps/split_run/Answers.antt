use Rattle.cedar_schema_tokens.proofs.Runs.{IsCharBoundary-run}
use Rattle.cedar_schema_tokens.proofs.steps.split_run.Goals as goal

pub split_at-requires : goal.split_at-requires
split_at-requires c = rw (c.run_len.ensures.len, c.as_bytes.ensures.value) (IsCharBoundary-run c.args.class c.args.s.now c.utf8.s)
