use Rattle.std.specs.List.{flat_map}
use Rattle.cedar_places.proofs.TableLemmas.{IsUnderWay}
use Rattle.cedar_places.proofs.listing.list_declarations.Given as goal
use Rattle.cedar_places.specs.Words.{marks_under, namespace_of}

abbrev pub invariant-loop-id : goal.invariant-loop-id
invariant-loop-id g l =
    let is = g.T.Declared in
    let marks = marks_under (is.mark (namespace_of l.namespace)) is.inner in
    IsUnderWay marks l.fn.table (flat_map marks l.declarations.entries) l.table l.id-iterator
