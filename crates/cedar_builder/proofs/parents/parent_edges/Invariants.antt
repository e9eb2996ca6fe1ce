use Rattle.std.proofs.Common.{map, take}
use Rattle.cedar_builder.proofs.parents.parent_edges.Given as goal
use Rattle.cedar_builder.specs.Words.{HoldsPairwise, IsEdgeOf, held_names, named, parents_in}

abbrev pub invariant-loop-item : goal.invariant-loop-item
invariant-loop-item g l =
    HoldsPairwise (IsEdgeOf g.D.HasParents.key_name (g.D.HasParents.Resolves (held_names l.defs))) l.edges.items
    (parents_in (map (named g.D.HasParents.key_name g.D.HasParents.parents_of) (take l.item-index l.declared)))
