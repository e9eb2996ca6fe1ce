use Rattle.std.proofs.Common.{drop}
use Rattle.cedar_type_rules.specs.Stated.{FieldsRequireAll}
use Rattle.cedar_types.proofs.+required.Given as goal
use Rattle.cedar_types.proofs.StatedSteps.{TellsLeft}

abbrev pub invariant-stated::require_all-loop-attribute : goal.invariant-stated::require_all-loop-attribute
invariant-stated::require_all-loop-attribute l = TellsLeft FieldsRequireAll l.attrs (drop l.attribute-index l.attribute-items)
