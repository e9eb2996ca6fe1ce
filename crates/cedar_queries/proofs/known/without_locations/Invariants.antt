use Rattle.std.proofs.Common.{◌≡◌, ◌++◌}
use Rattle.cedar_queries.proofs.known.without_locations.Given as goal
use Rattle.cedar_types.specs.Attributes.{plain_attributes}

abbrev pub invariant-loop-name : goal.invariant-loop-name
invariant-loop-name l = plain_attributes l.entries.items ++ plain_attributes l.name-iterator ≡ plain_attributes l.initial.name-iterator
