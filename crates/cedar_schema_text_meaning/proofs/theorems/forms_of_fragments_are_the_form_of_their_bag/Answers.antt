use Rattle.cedar_schema_text_meaning.proofs.WritableFragments.{forms_together}
use Rattle.cedar_schema_text_meaning.proofs.theorems.forms_of_fragments_are_the_form_of_their_bag.Goals as goal

pub returns : goal.returns
returns c = forms_together
