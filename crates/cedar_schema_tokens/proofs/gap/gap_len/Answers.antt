use Rattle.cedar_schema_tokens.specs.declared.steps.Class.TheVariants.{Line}
use Rattle.cedar_schema_tokens.proofs.Runs.{IsCharBoundary-run}
use Rattle.cedar_schema_tokens.proofs.gap.gap_len.Goals as goal

pub returns-then-byte_at-eq47-clause-cut : goal.returns-then-byte_at-eq47-clause-cut
returns-then-byte_at-eq47-clause-cut c =
    rw (c.run_len.ensures.len, c.as_bytes.ensures.value) (IsCharBoundary-run Line c.args.s.now c.utf8.s)
