use Rattle.cedar_fragments.proofs.DeclaredNames.{names_are_declared}
use Rattle.cedar_fragments.proofs.theorems.names_are_those_of_the_bag.Goals as goal

pub returns : goal.returns
returns g c refer refer_action = names_are_declared _ refer _ refer_action
