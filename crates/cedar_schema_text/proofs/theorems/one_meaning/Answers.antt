use Rattle.cedar_schema_text.proofs.TextLemmas as lemmas
use Rattle.cedar_schema_text.proofs.theorems.one_meaning.Goals as goal

pub returns : goal.returns
returns c = lemmas.one_meaning
