use Rattle.cedar_schema_text_laws.proofs.TextNames.{members_have_names}
use Rattle.cedar_schema_text_laws.proofs.theorems.what_texts_name_are_names.Goals as goal

pub returns : goal.returns
returns c = members_have_names
