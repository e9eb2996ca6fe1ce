use Rattle.std.proofs.Common.{[], codes, ap, option_and_then, refl, sym, ◌∙◌}
use Rattle.std.proofs.lemmas.Result.{err_from_is_err_and}
use Rattle.cedar_json.proofs.DefinitionLemmas.{definition_by-no_actions, definition_by-no_entity_types, no_common_types}
use Rattle.cedar_json.proofs.FieldLemmas.{nowhere, where_both}
use Rattle.cedar_json.proofs.definition_reading.NamespaceDefinitionRawNameFromJsonOwned.take.Goals as goal
use Rattle.cedar_json.specs.Words.{actions_in, annotations_fit, common_types_in, definition_by, entity_types_in, field_or, has_only, known_fields}
use Rattle.cedar_json.specs.declared.fault.Row.TheVariants.{OfDefinition}
use Rattle.json.specs.Find.{get}
use Rattle.json.specs.Value.{value_view}

-- a value with other fields than a definition may have describes none, nor does one whose
-- annotations are none
pub returns-in_err-check_declaration : goal.returns-in_err-check_declaration
returns-in_err-check_declaration c =
    let j = value_view c.args.value.now in
    let p = err_from_is_err_and c.from_residual.result c.from_residual.ensures.1 in
    rw (p.1, p.2) (
      λ other. nowhere (has_only (known_fields OfDefinition j) j) (annotations_fit (get (codes "annotations") j))
          (definition_by (field_or [] common_types_in (get (codes "commonTypes") j)) (option_and_then entity_types_in (get (codes "entityTypes") j))
          (option_and_then actions_in (get (codes "actions") j)))
          c.in_err-check_declaration.ensures.0,
      c.in_err-check_declaration.ensures.1,
    )

-- nor one that describes no common types in its field for them
pub returns-in_err-common_types : goal.returns-in_err-common_types
returns-in_err-common_types c =
    let j = value_view c.args.value.now in
    let common_types = field_or [] common_types_in (get (codes "commonTypes") j) in
    let entity_types = option_and_then entity_types_in (get (codes "entityTypes") j) in
    let actions = option_and_then actions_in (get (codes "actions") j) in
    let p = err_from_is_err_and c.from_residual-in_err-common_types.result c.from_residual-in_err-common_types.ensures.1 in
    rw (p.1, p.2) (
      λ other. where_both (has_only (known_fields OfDefinition j) j) (annotations_fit (get (codes "annotations") j))
          (definition_by common_types entity_types actions) c.in_ok-check_declaration.ensures
          ∙ ap (λ it. definition_by it entity_types actions)
          (no_common_types c.new-absent.result (get (codes "commonTypes") j) c.new-absent.ensures.empty ∙ c.in_err-common_types.ensures.value.0 other),
      c.in_err-common_types.ensures.value.1 j refl,
    )

-- nor one that describes no entity types
pub returns-in_err-entity_types : goal.returns-in_err-entity_types
returns-in_err-entity_types c =
    let j = value_view c.args.value.now in
    let common_types = field_or [] common_types_in (get (codes "commonTypes") j) in
    let entity_types = option_and_then entity_types_in (get (codes "entityTypes") j) in
    let actions = option_and_then actions_in (get (codes "actions") j) in
    let stays = c.in_ok-common_types.ensures.others (codes "entityTypes") refl in
    let p = err_from_is_err_and c.from_residual-in_err-entity_types.result c.from_residual-in_err-entity_types.ensures.1 in
    rw (p.1, p.2) (
      λ other. where_both (has_only (known_fields OfDefinition j) j) (annotations_fit (get (codes "annotations") j))
          (definition_by common_types entity_types actions) c.in_ok-check_declaration.ensures
          ∙ ap (λ it. definition_by common_types it actions)
          (ap (option_and_then entity_types_in) (sym stays) ∙ c.in_err-entity_types.ensures.value.0 other)
          ∙ definition_by-no_entity_types common_types actions,
      c.in_err-entity_types.ensures.value.1 j (sym stays),
    )

-- nor one that describes no actions
pub returns-in_err-actions : goal.returns-in_err-actions
returns-in_err-actions c =
    let j = value_view c.args.value.now in
    let common_types = field_or [] common_types_in (get (codes "commonTypes") j) in
    let entity_types = option_and_then entity_types_in (get (codes "entityTypes") j) in
    let actions = option_and_then actions_in (get (codes "actions") j) in
    let stays = c.in_ok-entity_types.ensures.others (codes "actions") refl ∙ c.in_ok-common_types.ensures.others (codes "actions") refl in
    let p = err_from_is_err_and c.from_residual-in_err-actions.result c.from_residual-in_err-actions.ensures.1 in
    rw (p.1, p.2) (
      λ other. where_both (has_only (known_fields OfDefinition j) j) (annotations_fit (get (codes "annotations") j))
          (definition_by common_types entity_types actions) c.in_ok-check_declaration.ensures
          ∙ ap (definition_by common_types entity_types)
          (ap (option_and_then actions_in) (sym stays) ∙ c.in_err-actions.ensures.value.0 other)
          ∙ definition_by-no_actions common_types entity_types,
      c.in_err-actions.ensures.value.1 j (sym stays),
    )

-- what is defined are the parts that were read
pub returns : goal.returns
returns c =
    let j = value_view c.args.value.now in
    let held = get (codes "commonTypes") j in
    let common_types = no_common_types c.new-absent.result held c.new-absent.ensures.empty ∙ c.in_ok-common_types.ensures.value in
    let entity_types = ap (option_and_then entity_types_in) (sym (c.in_ok-common_types.ensures.others (codes "entityTypes") refl))
    ∙ c.in_ok-entity_types.ensures.value in
    let actions = ap (option_and_then actions_in)
    (sym (c.in_ok-entity_types.ensures.others (codes "actions") refl ∙ c.in_ok-common_types.ensures.others (codes "actions") refl))
    ∙ c.in_ok-actions.ensures.value in
    where_both (has_only (known_fields OfDefinition j) j) (annotations_fit (get (codes "annotations") j))
    (definition_by (field_or [] common_types_in held) (option_and_then entity_types_in (get (codes "entityTypes") j))
    (option_and_then actions_in (get (codes "actions") j))) c.in_ok-check_declaration.ensures
    ∙ (λ i. definition_by (common_types i) (entity_types i) (actions i))
