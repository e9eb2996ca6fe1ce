use Rattle.cedar_schema_text_laws.proofs.ReadBack.{read_is_own}
use Rattle.cedar_schema_text_laws.proofs.theorems.what_was_read_is_its_own_text_form.Goals as goal

pub returns-clause-writable : goal.returns-clause-writable
returns-clause-writable c = λ source text it first stands. (read_is_own source text it first stands).0

pub returns-clause-form : goal.returns-clause-form
returns-clause-form c = λ source text it first stands. (read_is_own source text it first stands).1
