use Rattle.cedar_schema_tokens.proofs.Exact as exact
use Rattle.cedar_schema_tokens.proofs.reading.one_reading.Goals as goal

pub returns : goal.returns
returns c = exact.one_reading
