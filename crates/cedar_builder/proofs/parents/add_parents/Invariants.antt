use Rattle.std.proofs.Common.{◌++◌, List, map, take}
use Rattle.cedar_builder.proofs.parents.add_parents.Given as goal
use Rattle.cedar_builder.specs.Words.{HoldsPairwise, IsEdgeOf, held_names}

abbrev pub invariant-loop-parent : goal.invariant-loop-parent
invariant-loop-parent g l =
    let is = g.D.HasParents in
    let IsOf = IsEdgeOf is.key_name (is.Resolves (held_names l.defs)) in
    (parents : List (is.Name × is.Reference)) → HoldsPairwise IsOf l.initial.edges.items parents
    → HoldsPairwise IsOf l.edges.items
    (parents ++ map (λ reference. (is.key_name l.lower, reference)) (map (is.reference_of l.declaration) (take l.parent-index l.parent-items)))
