use Rattle.std.proofs.Common.{map, Contains, string_bytes}
use Rattle.std.specs.Vec.Iter.{into_iter_items}
use Rattle.cedar_fragments.proofs.namespace.qualify_actions.first_action.Given as goal
use Rattle.cedar_fragments.specs.Words.{held_names, name_of, names_of}
use Rattle.cedar_name_resolution.proofs.ResolveLemmas.{IsLeftToTest}

abbrev pub invariant-loop-name : goal.invariant-loop-name
invariant-loop-name l =
    IsLeftToTest (λ name. Contains (held_names l.all_defs).actions (record { ty = name; eid = string_bytes l.id }))
    (names_of l.fn.names) (map name_of (into_iter_items l.name-iterator))
