use Rattle.std.proofs.Common.{drop}
use Rattle.cedar_types.proofs.+subtype.Given as goal
use Rattle.cedar_types.proofs.SubtypeSteps.{WalkedBelow}
use Rattle.cedar_types.specs.Words.{size-AttributeType, size-Attributes, size-Type}

abbrev pub decreases-subtype::fields_fit : goal.decreases-subtype::fields_fit
decreases-subtype::fields_fit l = size-Attributes l.upper.now

abbrev pub decreases-subtype::attribute_fits : goal.decreases-subtype::attribute_fits
decreases-subtype::attribute_fits l = size-AttributeType l.upper.now

abbrev pub decreases-types::Type::is_subtype : goal.decreases-types::Type::is_subtype
decreases-types::Type::is_subtype l = size-Type l.b.now

abbrev pub invariant-subtype::fields_fit-loop-name : goal.invariant-subtype::fields_fit-loop-name
invariant-subtype::fields_fit-loop-name l = WalkedBelow l.mode l.lower l.upper l.at (drop l.name-index l.name-items)
