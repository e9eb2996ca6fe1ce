use Rattle.cedar_schema_text_meaning.proofs.AnsweredAlike.{come_back_through_text}
use Rattle.cedar_schema_text_meaning.proofs.theorems.schemas_come_back_through_text.Goals as goal

pub returns : goal.returns
returns c = come_back_through_text
