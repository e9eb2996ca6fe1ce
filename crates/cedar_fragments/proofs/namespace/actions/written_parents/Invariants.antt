use Rattle.std.proofs.Common.{◌≡◌, Option, map}
use Rattle.cedar_fragments.proofs.namespace.actions.written_parents.Given as goal
use Rattle.cedar_fragments.specs.Words.{PlainName, RawName, fragment_parent, parent_action, raw_reference}

abbrev pub invariant-loop-parent : goal.invariant-loop-parent
invariant-loop-parent l =
    (namespace : Option PlainName) → map (fragment_parent RawName (raw_reference namespace)) l.parents.items
    ≡ map (parent_action RawName (raw_reference namespace) namespace) l.yielded
