use Rattle.cedar_schema_grammar.proofs.Exact as exact
use Rattle.cedar_schema_grammar.proofs.reading.schema.one_reading.Goals as goal

pub returns : goal.returns
returns c = exact.one_reading
