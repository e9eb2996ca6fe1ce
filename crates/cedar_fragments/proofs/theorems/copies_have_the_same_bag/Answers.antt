use Rattle.cedar_fragments.proofs.CopyLemmas.{positional_alike, resolved_alike, action_type_alike}
use Rattle.cedar_fragments.proofs.theorems.copies_have_the_same_bag.Goals as goal
use Rattle.cedar_fragments.specs.Words.{positional_reference, resolved_action_type, resolved_reference}

pub returns-clause-conditional : goal.returns-clause-conditional
returns-clause-conditional c fragment copy same = same positional_reference positional_reference positional_alike positional_alike

pub returns-clause-resolved : goal.returns-clause-resolved
returns-clause-resolved c fragment copy same = same resolved_reference resolved_action_type resolved_alike action_type_alike
