use Rattle.std.proofs.Common.{◌≡◌, ◌↔◌, Any, map}
use Rattle.cedar_queries.proofs.descent.has_descendant_of.Given as goal
use Rattle.cedar_queries.specs.Words.{action_of, type_name, uid_of}

abbrev pub invariant-loop-below : goal.invariant-loop-below
invariant-loop-below l =
    Any (λ below. below.ty ≡ type_name l.ty) (action_of l.action).descendants
    ↔ Any (λ below. below.ty ≡ type_name l.ty) (map uid_of l.below-iterator)
