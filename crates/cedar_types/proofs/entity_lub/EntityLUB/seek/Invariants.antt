use Rattle.std.proofs.Common.{◌-◌, length}
use Rattle.cedar_name_map.proofs.RisingLemmas.{Passed}
use Rattle.cedar_types.proofs.entity_lub.EntityLUB.seek.Given as goal
use Rattle.cedar_types.specs.Words.{name_cmp, type_name}

abbrev pub invariant-loop-at : goal.invariant-loop-at
invariant-loop-at l = Passed type_name name_cmp l.types (type_name l.ty) l.fn.from l.at

abbrev pub decreases-loop-at : goal.decreases-loop-at
decreases-loop-at l = length l.types - l.at
