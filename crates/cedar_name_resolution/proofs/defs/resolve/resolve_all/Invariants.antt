use Rattle.std.specs.Vec.Iter.{into_iter_items}
use Rattle.cedar_name_resolution.proofs.Pairwise.{TurnSoFar}
use Rattle.cedar_name_resolution.proofs.defs.resolve.resolve_all.Given as goal
use Rattle.cedar_name_resolution.specs.Words.{ResolvesTo, held_names, name_of}

abbrev pub invariant-loop-name : goal.invariant-loop-name
invariant-loop-name g l =
    TurnSoFar (ResolvesTo (held_names l.all_defs)) g.N.ResolveName.reference name_of l.fn.names.items l.resolved.items
    (into_iter_items l.name-iterator)
