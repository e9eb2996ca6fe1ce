use Rattle.std.proofs.Common.{◌≡◌, map}
use Rattle.cedar_fragments.proofs.namespace.given_common_types.given_defs.Given as goal
use Rattle.cedar_fragments.specs.Words.{common_type, declared_as, given_common_types, name_of, namespace_name, positional_expr}

abbrev pub invariant-loop-definition : goal.invariant-loop-definition
invariant-loop-definition l =
    map (λ def. declared_as (name_of def.name) (common_type (positional_expr def.ty))) l.defs.items
    ≡ given_common_types (namespace_name l.namespace) l.yielded
