use Rattle.cedar_validation.proofs.Checking.{Checking}
use Rattle.cedar_validation.proofs.HierarchyLemmas.{IsCheckedBelow}
use Rattle.cedar_validation.proofs.hierarchy.check_hierarchy.Given as goal

abbrev pub invariant-loop-upper : goal.invariant-loop-upper
invariant-loop-upper l = Checking (IsCheckedBelow l.parts) l.parts.entity_types.entries l.upper-iterator
