use Rattle.cedar_schema_text_meaning.proofs.AnsweredAlike.{answered_alike}
use Rattle.cedar_schema_text_meaning.proofs.theorems.text_forms_are_answered_alike.Goals as goal

pub returns : goal.returns
returns c = answered_alike
