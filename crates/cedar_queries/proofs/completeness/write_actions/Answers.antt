use Rattle.std.proofs.Common.{◌++◌, ◌∷◌, ◌∙◌, [], List, ap, flat_map, map, refl, sym, take}
use Rattle.std.proofs.lemmas.Grind.{put_two}
use Rattle.std.proofs.lemmas.List.{flat_map_more, map-append, take_more}
use Rattle.cedar_queries.proofs.completeness.write_actions.Goals as goal
use Rattle.cedar_queries.specs.Words.{EntityUID, external_action_text, uid_of}

pub loop-uid-preserved : goal.loop-uid-preserved
loop-uid-preserved g c plain =
    let before = c.loop-uid.invariant plain in
    let all = c.args.actions.now in
    let i = c.loop-uid.uid-index in
    let item = c.uid-item.result in
    put_two _ _ _ _ _ _ _ before (c.in_ok-write.ensures.writes before.plain refl)
    (flat_map_more external_action_text [] (map uid_of (take i all)) (uid_of item)
    ∙ ap (flat_map external_action_text) (sym (map-append uid_of (take i all) (item ∷ [])))
    ∙ ap (λ (them : List EntityUID). flat_map external_action_text (map uid_of them))
    (ap (λ one. take i all ++ one ∷ []) c.uid-item.is ∙ sym (take_more all i item c.loop-uid-test.true)))
