use Rattle.std.proofs.Common.{arith, map, ap, sym, ◌∙◌, refl}
use Rattle.std.proofs.lemmas.List.{nil_from_length}
use Rattle.std.specs.Option.{option_map}
use Rattle.std.specs.Vec.Iter.{into_iter_items}
use Rattle.cedar_fragments.proofs.Adding.{add_none, add_next, add_all}
use Rattle.cedar_fragments.proofs.DeclaredParts.{entities_declared}
use Rattle.cedar_fragments.proofs.Items.{entity_item}
use Rattle.cedar_fragments.proofs.collecting.add_entity_types.Goals as goal
use Rattle.cedar_fragments.specs.Words.{declared_entities, fragment_body, name_of, type_name, written_entity_body}

pub loop-def-init : goal.loop-def-init
loop-def-init g c =
    let N = g.row.N.Denot in
    let refer = g.N.WrittenName.refer (option_map name_of c.args.namespace.now) in
    add_none _ (entity_item N refer) _ _ _ _ refl
    (ap (map (entity_item N refer)) c.into_iter-def-iterator.ensures.into_iter_gives.0
    ∙ sym (ap declared_entities (c.into_defs-def-items.ensures refer)
    ∙ entities_declared N refer c.into_defs-def-items.result.items))

pub loop-def-preserved : goal.loop-def-preserved
loop-def-preserved g c =
    let N = g.row.N.Denot in
    let refer = g.N.WrittenName.refer (option_map name_of c.args.namespace.now) in
    add_next _ (entity_item N refer) _ _ _ _ c.in-Some.def c.in_ok-new.field-0 _ c.in-Some.ensures.steps.0
    c.in_ok-push.ensures.items
    (ap (λ it. (type_name it.0, written_entity_body N g.N.WrittenName.refer it.1)) c.in_ok-new.ensures.ok
    ∙ (λ i. (
      type_name c.in-Some.def.name,
      fragment_body N (g.N.WrittenName.refer (c.in_ok-written.ensures.namespace i)) (c.in_ok-written.ensures.declared i),
    )))
    c.loop-def.invariant

pub returns : goal.returns
returns g c =
    let N = g.row.N.Denot in
    let refer = g.N.WrittenName.refer (option_map name_of c.args.namespace.now) in
    add_all _ (entity_item N refer) _ (into_iter_items c.loop-def.def-iterator) _
    (nil_from_length _ (omega (arith, c.in-None.ensures.steps.0, c.loop-def.def-iterator.rest.ok.0)))
    c.loop-def.invariant
