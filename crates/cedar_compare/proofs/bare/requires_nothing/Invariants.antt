use Rattle.std.proofs.Common.{◌↔◌}
use Rattle.cedar_compare.proofs.bare.requires_nothing.Given as goal
use Rattle.cedar_compare.specs.Words.{Extensions, Gives, HasFieldsBy, fields_from, fields_of, no_entry, plain_attributes}

abbrev pub invariant-loop-attribute : goal.invariant-loop-attribute
invariant-loop-attribute l = (extensions : Extensions) → HasFieldsBy (Gives extensions) no_entry (fields_of l.attrs)
    ↔ HasFieldsBy (Gives extensions) no_entry (fields_from (plain_attributes l.attribute-iterator))
