use Rattle.cedar_types.proofs.UnionsAtOnce.{NamedBefore}
use Rattle.cedar_types.proofs.entity_lub.EntityLUB.all_types.Given as goal

abbrev pub invariant-loop-place : goal.invariant-loop-place
invariant-loop-place l = NamedBefore l.unions.items l.place l.all.items
