use Rattle.std.proofs.Common.{◌↔◌, map}
use Rattle.cedar_queries.proofs.descent.has_action_below.Given as goal
use Rattle.cedar_queries.specs.Words.{HasActionBelow, plain_action_entry, type_name}

abbrev pub invariant-loop-uid : goal.invariant-loop-uid
invariant-loop-uid l =
    HasActionBelow (map plain_action_entry l.actions.entries) (type_name l.upper) (type_name l.lower)
    ↔ HasActionBelow (map plain_action_entry l.uid-iterator) (type_name l.upper) (type_name l.lower)
