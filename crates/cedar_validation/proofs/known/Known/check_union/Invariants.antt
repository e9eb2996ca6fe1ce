use Rattle.std.proofs.Common.{map}
use Rattle.std.specs.Slice.Iter.{iter_rest}
use Rattle.cedar_validation.proofs.Checking.{Checking}
use Rattle.cedar_validation.proofs.known.Known.check_union.Given as goal
use Rattle.cedar_validation.specs.Words.{Knows, lub_names, type_name}

abbrev pub invariant-loop-name : goal.invariant-loop-name
invariant-loop-name l = Checking (Knows l.self) (lub_names l.union) (map type_name (iter_rest l.name-iterator))
