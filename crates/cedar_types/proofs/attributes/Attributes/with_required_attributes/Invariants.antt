use Rattle.std.proofs.Common.{◌≡◌}
use Rattle.cedar_types.proofs.attributes.Attributes.with_required_attributes.Given as goal
use Rattle.cedar_types.specs.Words.{located_attributes, located_required, plain_attributes, plain_required}

abbrev pub invariant-loop-name : goal.invariant-loop-name
invariant-loop-name g l =
    (plain_attributes l.entries.items ≡ plain_required l.yielded) × (located_attributes l.entries.items ≡ located_required l.yielded)
