use Rattle.cedar_schema_tokens.proofs.Spellings.{spelled_is_read}
use Rattle.cedar_schema_tokens.proofs.spelled.what_is_spelled_is_read.Goals as goal

pub returns : goal.returns
returns c = spelled_is_read
