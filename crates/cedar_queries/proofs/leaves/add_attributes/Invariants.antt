use Rattle.std.proofs.Common.{◌≡◌, ◌++◌}
use Rattle.cedar_queries.proofs.leaves.add_attributes.Given as goal
use Rattle.cedar_queries.specs.Words.{field_types, fields_from, plain_attributes, shown_types}

abbrev pub invariant-loop-attribute : goal.invariant-loop-attribute
invariant-loop-attribute l =
    shown_types l.pending.items ++ field_types (fields_from (plain_attributes l.attribute-iterator))
    ≡ shown_types l.initial.pending.items ++ field_types (fields_from (plain_attributes l.initial.attribute-iterator))
