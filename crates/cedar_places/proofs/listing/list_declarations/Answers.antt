use Rattle.std.proofs.Common.{[], ◌∷◌}
use Rattle.std.specs.List.{flat_map}
use Rattle.cedar_places.proofs.TableLemmas.{IsUnderWay-done, IsUnderWay-next, listed_in_turn, listed_made}
use Rattle.cedar_places.proofs.listing.list_declarations.Goals as goal
use Rattle.cedar_places.specs.Words.{marks_under, namespace_of}

-- one more declaration is listed, and then what is in its types
pub loop-id-preserved : goal.loop-id-preserved
loop-id-preserved g c =
    let is = g.T.Declared in
    let id = c.in-Some.id.now in
    let it = c.in-Some.it.now in
    let mark = is.mark (namespace_of c.args.namespace.now) in
    let marks = marks_under mark is.inner in
    let itself = listed_made c.at.result (mark id it) c.loop-id.table c.add.new.self c.at.ensures c.add.ensures in
    let listed = listed_in_turn (mark id it ∷ []) (is.inner it) c.loop-id.table c.add.new.self c.list_types.new.table itself c.list_types.ensures in
    IsUnderWay-next marks c.args.table.now (flat_map marks c.args.declarations.now.entries) c.loop-id.table c.list_types.new.table (id, it)
    c.loop-id.id-iterator c.next.new.self c.in-Some.ensures.steps listed c.loop-id.invariant

-- where none is left, all are listed
pub returns : goal.returns
returns g c =
    let is = g.T.Declared in
    let marks = marks_under (is.mark (namespace_of c.args.namespace.now)) is.inner in
    IsUnderWay-done marks c.args.table.now (flat_map marks c.args.declarations.now.entries) c.loop-id.table c.loop-id.id-iterator
    c.in-None.ensures.steps.0 c.loop-id.invariant
