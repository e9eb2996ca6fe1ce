use Rattle.std.proofs.Common.{drop}
use Rattle.cedar_types.proofs.JoinSteps.{PermissiveSoFar, StrictSoFar}
use Rattle.cedar_types.proofs.join.+join.Given as goal

abbrev pub invariant-permissive_record-loop-name : goal.invariant-permissive_record-loop-name
invariant-permissive_record-loop-name l = PermissiveSoFar l.a l.b l.at (drop l.name-index l.own) l.joined.items

abbrev pub invariant-strict_record-loop-name : goal.invariant-strict_record-loop-name
invariant-strict_record-loop-name l = StrictSoFar l.a l.b l.at (drop l.name-index l.own) l.joined.items
