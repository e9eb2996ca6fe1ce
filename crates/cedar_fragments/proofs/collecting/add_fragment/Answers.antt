use Rattle.std.proofs.Common.{ap, arith, sym}
use Rattle.std.proofs.lemmas.List.{nil_from_length}
use Rattle.std.specs.List.{flat_map}
use Rattle.std.specs.Vec.Iter.{into_iter_items}
use Rattle.cedar_fragments.proofs.CollectedTogether.{collect_none, collect_next, collect_all}
use Rattle.cedar_fragments.proofs.collecting.add_fragment.Goals as goal
use Rattle.cedar_fragments.specs.Words.{written_definition}

pub loop-definition-init : goal.loop-definition-init
loop-definition-init g c =
    let N = g.row.N.Denot in
    let refer = g.N.WrittenName.refer in
    collect_none N refer (written_definition N refer) _ _ _ _ c.into_iter-definition-iterator.ensures.into_iter_gives.0
    (sym (ap (flat_map (written_definition N refer)) c.into_definitions-definition-items.ensures))

pub loop-definition-preserved : goal.loop-definition-preserved
loop-definition-preserved g c =
    let N = g.row.N.Denot in
    let refer = g.N.WrittenName.refer in
    collect_next N refer (written_definition N refer) _ _ _ _ _ _ c.in-Some.definition c.in-Some.ensures.steps.0 c.in_ok-declared.ensures c.loop-definition.invariant

pub returns : goal.returns
returns g c =
    let N = g.row.N.Denot in
    let refer = g.N.WrittenName.refer in
    collect_all N refer (written_definition N refer) _ _ _ (into_iter_items c.loop-definition.definition-iterator)
    (nil_from_length _ (omega (arith, c.in-None.ensures.steps.0, c.loop-definition.definition-iterator.rest.ok.0))) c.loop-definition.invariant
