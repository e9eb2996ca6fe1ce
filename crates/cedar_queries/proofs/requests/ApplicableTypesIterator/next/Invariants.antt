use Rattle.std.proofs.Common.{◌≡◌, ◌++◌, [], length, map}
use Rattle.std.specs.List.{flat_map}
use Rattle.std.specs.Option.{unwrap_or}
use Rattle.cedar_queries.proofs.requests.ApplicableTypesIterator.next.Given as goal
use Rattle.cedar_queries.specs.Words.{action_of, type_name, types_in_role}

abbrev pub invariant-loop-self : goal.invariant-loop-self
invariant-loop-self l =
    map type_name (unwrap_or l.self-inside.current []) ++ flat_map (λ it. types_in_role l.self-inside.role (action_of it).kind) l.self-inside.rest
    ≡ l.fn.self

abbrev pub decreases-loop-self : goal.decreases-loop-self
decreases-loop-self l = length l.self-inside.rest
