use Rattle.cedar_fragments.proofs.SoundFragments.{fragments_have_no_fault}
use Rattle.cedar_fragments.proofs.theorems.fragments_have_no_definition_fault.Goals as goal

pub returns : goal.returns
returns g c refer refer_action = fragments_have_no_fault _ refer _ refer_action
