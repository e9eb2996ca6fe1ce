use Rattle.std.proofs.Common.{◌≡◌, map}
use Rattle.cedar_fragments.proofs.namespace.taken_names.ConditionalNameTakenOver.taken_names.Given as goal
use Rattle.cedar_fragments.specs.Words.{Entity, namespace_name, positional_reference, raw_reference}

abbrev pub invariant-loop-name : goal.invariant-loop-name
invariant-loop-name l = map (positional_reference Entity) l.references.items ≡ map (raw_reference (namespace_name l.namespace) Entity) l.yielded
