use Rattle.std.proofs.Common.{◌++◌, ◌∷◌, ◌∙◌, [], List, ap, codes, map, refl, sym, take}
use Rattle.std.proofs.lemmas.Grind.{put_two}
use Rattle.std.proofs.lemmas.List.{flat_map_more, map-append, take_more}
use Rattle.cedar_schema_ast.proofs.json_schema.qualify_error.write_others.Goals as goal
use Rattle.cedar_schema_ast.specs.Words.{ConditionalName, Reference, Text, conditional_reference, each_after, undeclared_text}

pub loop-reference-preserved : goal.loop-reference-preserved
loop-reference-preserved g c plain =
    let before = c.loop-reference.invariant plain in
    let all = c.args.references.now in
    let i = c.loop-reference.reference-index in
    let item = c.reference-item.result in
    let behind : List Text → Text = each_after (codes ", ") in
    let written = map conditional_reference (take i all) in
    put_two _ _ _ _ _ _ _ before (c.in_ok-write.ensures.writes before.plain refl)
    (flat_map_more (λ (text : Text). codes ", " ++ text) [] (map undeclared_text written) (undeclared_text (conditional_reference item))
    ∙ ap behind (sym (map-append undeclared_text written (conditional_reference item ∷ [])))
    ∙ ap (λ (them : List Reference). behind (map undeclared_text them)) (sym (map-append conditional_reference (take i all) (item ∷ [])))
    ∙ ap (λ (them : List ConditionalName). behind (map undeclared_text (map conditional_reference them)))
    (ap (λ one. take i all ++ one ∷ []) c.reference-item.is ∙ sym (take_more all i item c.loop-reference-test.true)))
