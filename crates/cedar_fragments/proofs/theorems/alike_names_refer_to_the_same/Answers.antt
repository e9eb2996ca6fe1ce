use Rattle.cedar_fragments.proofs.CopyLemmas.{own_alike, positional_alike, resolved_alike, action_type_alike}
use Rattle.cedar_fragments.proofs.theorems.alike_names_refer_to_the_same.Goals as goal

pub returns-clause-own : goal.returns-clause-own
returns-clause-own c = own_alike

pub returns-clause-placed : goal.returns-clause-placed
returns-clause-placed c = positional_alike

pub returns-clause-resolved : goal.returns-clause-resolved
returns-clause-resolved c = resolved_alike

pub returns-clause-action_types : goal.returns-clause-action_types
returns-clause-action_types c = action_type_alike
