use Rattle.cedar_schema_text_meaning.proofs.WritableFragments.{writable_fragments}
use Rattle.cedar_schema_text_meaning.proofs.theorems.writable_fragments_are_a_writable_bag.Goals as goal

pub returns : goal.returns
returns c = writable_fragments
