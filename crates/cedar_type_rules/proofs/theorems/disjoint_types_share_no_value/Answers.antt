use Rattle.cedar_type_rules.proofs.DisjointLemmas.{disjoint_apart}
use Rattle.cedar_type_rules.proofs.theorems.disjoint_types_share_no_value.Goals as goal

pub returns : goal.returns
returns c = disjoint_apart
