use Rattle.std.proofs.Common.{drop}
use Rattle.cedar_types.proofs.+clean.Given as goal
use Rattle.cedar_types.proofs.CleanSteps.{IsCleanLeft}

abbrev pub invariant-clean::are_clean-loop-attribute : goal.invariant-clean::are_clean-loop-attribute
invariant-clean::are_clean-loop-attribute l = IsCleanLeft l.attrs (drop l.attribute-index l.attribute-items)
