use Rattle.cedar_graph.proofs.TableEdges.{lacking, numbered_at}
use Rattle.cedar_graph.proofs.places.place_of.Goals as goal

pub returns-in-Some-clause-place : goal.returns-in-Some-clause-place
returns-in-Some-clause-place g c =
    numbered_at g.met.K.Eq.laws g.K.Ord.cmp g.met.K.Ord.matches_eq c.args.nodes.now.entries c.args.key.now c.in-Some.place
    c.in-Some.ensures.found

pub returns-in_ok-copy_key-in-None-clause-fault : goal.returns-in_ok-copy_key-in-None-clause-fault
returns-in_ok-copy_key-in-None-clause-fault g c =
    let copy = c.in_ok-copy_key-in-None.field-0 in (
      c.in_ok-copy_key-in-None.ensures,
      lacking g.met.K.Eq.laws g.K.Ord.cmp g.met.K.Ord.matches_eq c.args.nodes.now.entries c.args.key.now copy
          c.in_ok-copy_key-in-None.ensures c.in-None.ensures.lacking,
    )
