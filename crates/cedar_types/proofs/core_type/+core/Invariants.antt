use Rattle.std.proofs.Common.{drop}
use Rattle.cedar_types.proofs.CoredWalk.{CoredSoFar}
use Rattle.cedar_types.proofs.core_type.+core.Given as goal

abbrev pub invariant-core_attributes-loop-name : goal.invariant-core_attributes-loop-name
invariant-core_attributes-loop-name l = CoredSoFar l.name-items (drop l.name-index l.name-items) l.core.entries
