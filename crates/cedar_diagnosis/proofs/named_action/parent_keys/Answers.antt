use Rattle.std.proofs.Common.{◌≡◌, ◌+◌, ◌++◌, [], ◌∷◌, ap, map, sym, take, ◌∙◌}
use Rattle.std.proofs.lemmas.List.{map-append, map_more}
use Rattle.cedar_diagnosis.proofs.named_action.parent_keys.Goals as goal
use Rattle.cedar_diagnosis.specs.ReferenceKeys.{key_parent}
use Rattle.cedar_schema_ast.specs.Words.{namespace_name, parent_action, raw_reference}
use Rattle.cedar_schema_ast.specs.declared.json_schema.raw_name.RawName.{RawName}

pub loop-parent-preserved : goal.loop-parent-preserved
loop-parent-preserved c =
    let namespace = namespace_name c.args.namespace in
    let said = parent_action RawName (raw_reference namespace) namespace in
    let parents = c.args.parents.now in
    let i = c.loop-parent.parent-index in
    let keys = c.loop-parent.keys.items in
    let key = c.in_ok-parent_key.field-0 in
    let one_more : map said (take (i + 1) parents) ≡ map said (take i parents) ++ said c.parent-item.result ∷ [] =
    map_more said parents i c.parent-item.result c.loop-parent-test.true ∙ ap (λ each. map said (take i parents) ++ said each ∷ []) (sym c.parent-item.is) in
    ap (map key_parent) c.in_ok-push.ensures.items
    ∙ (map-append key_parent keys (key ∷ []) ∙ (ap (λ front. front ++ key_parent key ∷ []) c.loop-parent.invariant
    ∙ (ap (λ each. map said (take i parents) ++ each ∷ []) c.in_ok-parent_key.ensures ∙ sym one_more)))
