use Rattle.std.proofs.Common.{◌++◌, ◌∷◌, ◌∙◌, [], List, ap, flat_map, map, refl, sym, take}
use Rattle.std.proofs.lemmas.Grind.{put_two}
use Rattle.std.proofs.lemmas.List.{flat_map_more, map-append, take_more}
use Rattle.cedar_queries.proofs.completeness.write_types.Goals as goal
use Rattle.cedar_queries.specs.Words.{EntityType, external_type_text, type_name}

pub loop-ty-preserved : goal.loop-ty-preserved
loop-ty-preserved g c plain =
    let before = c.loop-ty.invariant plain in
    let all = c.args.types.now in
    let i = c.loop-ty.ty-index in
    let item = c.ty-item.result in
    put_two _ _ _ _ _ _ _ before (c.in_ok-write.ensures.writes before.plain refl)
    (flat_map_more external_type_text [] (map type_name (take i all)) (type_name item)
    ∙ ap (flat_map external_type_text) (sym (map-append type_name (take i all) (item ∷ [])))
    ∙ ap (λ (them : List EntityType). flat_map external_type_text (map type_name them))
    (ap (λ one. take i all ++ one ∷ []) c.ty-item.is ∙ sym (take_more all i item c.loop-ty-test.true)))
