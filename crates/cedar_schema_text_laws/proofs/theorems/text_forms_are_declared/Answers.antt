use Rattle.cedar_schema_text_laws.proofs.FormsDeclared.{form_is_declared}
use Rattle.cedar_schema_text_laws.proofs.theorems.text_forms_are_declared.Goals as goal

pub returns : goal.returns
returns c = form_is_declared
