use Rattle.std.proofs.Common.{◌≡◌}
use Rattle.cedar_types.proofs.attributes.Attributes.with_attributes.Given as goal

abbrev pub invariant-loop-name : goal.invariant-loop-name
invariant-loop-name g l = l.entries.items ≡ l.yielded
