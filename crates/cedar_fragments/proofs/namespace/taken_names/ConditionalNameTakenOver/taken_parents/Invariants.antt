use Rattle.std.proofs.Common.{◌≡◌, map}
use Rattle.cedar_fragments.proofs.namespace.taken_names.ConditionalNameTakenOver.taken_parents.Given as goal
use Rattle.cedar_fragments.specs.Words.{ConditionalName, RawName, fragment_parent, namespace_name, positional_reference, raw_reference}

abbrev pub invariant-loop-parent : goal.invariant-loop-parent
invariant-loop-parent l =
    map (fragment_parent ConditionalName positional_reference) l.references.items
    ≡ map (fragment_parent RawName (raw_reference (namespace_name l.namespace))) l.yielded
