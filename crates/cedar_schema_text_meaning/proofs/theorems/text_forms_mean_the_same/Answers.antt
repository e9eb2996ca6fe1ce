use Rattle.cedar_schema_text_meaning.proofs.SameMeaning.{same_meaning}
use Rattle.cedar_schema_text_meaning.proofs.theorems.text_forms_mean_the_same.Goals as goal

pub returns : goal.returns
returns c = same_meaning
