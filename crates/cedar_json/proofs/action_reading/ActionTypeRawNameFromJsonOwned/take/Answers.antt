use Rattle.std.proofs.Common.{false, codes, ap, refl, sym, ◌∙◌}
use Rattle.std.proofs.lemmas.Result.{err_from_is_err_and}
use Rattle.cedar_json.proofs.ActionLemmas.{action_by-no_external, action_by-no_parents, action_by-no_requests, optional-pairs}
use Rattle.cedar_json.proofs.FieldLemmas.{nowhere, where_both}
use Rattle.cedar_json.proofs.action_reading.ActionTypeRawNameFromJsonOwned.take.Goals as goal
use Rattle.cedar_json.specs.Words.{action_by, annotations_fit, flag_or, has_only, known_fields, optional, pairs_in, parents_of, requests_of}
use Rattle.cedar_json.specs.declared.fault.Row.TheVariants.{OfAction}
use Rattle.json.specs.Find.{get}
use Rattle.json.specs.Value.{value_view}

-- a value with other fields than a declaration may have describes none, nor does one whose
-- annotations are none
pub returns-in_err-check_declaration : goal.returns-in_err-check_declaration
returns-in_err-check_declaration c =
    let j = value_view c.args.value.now in
    let p = err_from_is_err_and c.from_residual.result c.from_residual.ensures.1 in
    rw (p.1, p.2) (
      λ other. nowhere (has_only (known_fields OfAction j) j) (annotations_fit (get (codes "annotations") j))
          (action_by (optional pairs_in (get (codes "attributes") j)) (optional requests_of (get (codes "appliesTo") j))
          (optional parents_of (get (codes "memberOf") j)) (flag_or false (get (codes "external") j)))
          c.in_err-check_declaration.ensures.0,
      c.in_err-check_declaration.ensures.1,
    )

-- nor one whose field `external` is no flag
pub returns-in_err-external : goal.returns-in_err-external
returns-in_err-external c =
    let j = value_view c.args.value.now in
    let attributes = optional pairs_in (get (codes "attributes") j) in
    let requests = optional requests_of (get (codes "appliesTo") j) in
    let parents = optional parents_of (get (codes "memberOf") j) in
    let p = err_from_is_err_and c.from_residual-in_err-external.result c.from_residual-in_err-external.ensures.1 in
    rw (p.1, p.2) (
      λ other. where_both (has_only (known_fields OfAction j) j) (annotations_fit (get (codes "annotations") j))
          (action_by attributes requests parents (flag_or false (get (codes "external") j))) c.in_ok-check_declaration.ensures
          ∙ ap (action_by attributes requests parents) c.in_err-external.ensures.0 ∙ action_by-no_external attributes requests parents,
      c.in_err-external.ensures.1,
    )

-- nor one whose attributes describe no values
pub returns-in_err-attributes : goal.returns-in_err-attributes
returns-in_err-attributes c =
    let j = value_view c.args.value.now in
    let attributes = optional pairs_in (get (codes "attributes") j) in
    let requests = optional requests_of (get (codes "appliesTo") j) in
    let parents = optional parents_of (get (codes "memberOf") j) in
    let external = flag_or false (get (codes "external") j) in
    let p = err_from_is_err_and c.from_residual-in_err-attributes.result c.from_residual-in_err-attributes.ensures.1 in
    rw (p.1, p.2) (
      λ other. where_both (has_only (known_fields OfAction j) j) (annotations_fit (get (codes "annotations") j))
          (action_by attributes requests parents external) c.in_ok-check_declaration.ensures
          ∙ ap (λ a. action_by a requests parents external)
          (sym (optional-pairs (get (codes "attributes") j)) ∙ c.in_err-attributes.ensures.value.0 other),
      c.in_err-attributes.ensures.value.1 j refl,
    )

-- nor one that lists no parents in its field for them
pub returns-in_err-member_of : goal.returns-in_err-member_of
returns-in_err-member_of c =
    let j = value_view c.args.value.now in
    let stays = c.in_ok-attributes.ensures.others (codes "memberOf") refl in
    let attributes = optional pairs_in (get (codes "attributes") j) in
    let requests = optional requests_of (get (codes "appliesTo") j) in
    let parents = optional parents_of (get (codes "memberOf") j) in
    let external = flag_or false (get (codes "external") j) in
    let p = err_from_is_err_and c.from_residual-in_err-member_of.result c.from_residual-in_err-member_of.ensures.1 in
    rw (p.1, p.2) (
      λ other. where_both (has_only (known_fields OfAction j) j) (annotations_fit (get (codes "annotations") j))
          (action_by attributes requests parents external) c.in_ok-check_declaration.ensures
          ∙ ap (λ m. action_by attributes requests m external) (ap (optional parents_of) (sym stays) ∙ c.in_err-member_of.ensures.0 other)
          ∙ action_by-no_parents attributes requests external,
      c.in_err-member_of.ensures.1 j (sym stays),
    )

-- nor one whose requests are none
pub returns-in_err-applies_to : goal.returns-in_err-applies_to
returns-in_err-applies_to c =
    let j = value_view c.args.value.now in
    let stays = c.in_ok-attributes.ensures.others (codes "appliesTo") refl in
    let attributes = optional pairs_in (get (codes "attributes") j) in
    let requests = optional requests_of (get (codes "appliesTo") j) in
    let parents = optional parents_of (get (codes "memberOf") j) in
    let external = flag_or false (get (codes "external") j) in
    let p = err_from_is_err_and c.from_residual-in_err-applies_to.result c.from_residual-in_err-applies_to.ensures.1 in
    rw (p.1, p.2) (
      λ other. where_both (has_only (known_fields OfAction j) j) (annotations_fit (get (codes "annotations") j))
          (action_by attributes requests parents external) c.in_ok-check_declaration.ensures
          ∙ ap (λ r. action_by attributes r parents external) (ap (optional requests_of) (sym stays) ∙ c.in_err-applies_to.ensures.0 other)
          ∙ action_by-no_requests attributes parents external,
      c.in_err-applies_to.ensures.1 j (sym stays),
    )

-- what is declared are the parts that were read
pub returns : goal.returns
returns c =
    let j = value_view c.args.value.now in
    let attributes = sym (optional-pairs (get (codes "attributes") j)) ∙ c.in_ok-attributes.ensures.value in
    let parents = ap (optional parents_of) (sym (c.in_ok-attributes.ensures.others (codes "memberOf") refl)) ∙ c.in_ok-member_of.ensures in
    let requests = ap (optional requests_of) (sym (c.in_ok-attributes.ensures.others (codes "appliesTo") refl)) ∙ c.in_ok-applies_to.ensures in
    where_both (has_only (known_fields OfAction j) j) (annotations_fit (get (codes "annotations") j))
    (action_by (optional pairs_in (get (codes "attributes") j)) (optional requests_of (get (codes "appliesTo") j))
    (optional parents_of (get (codes "memberOf") j)) (flag_or false (get (codes "external") j))) c.in_ok-check_declaration.ensures
    ∙ (λ i. action_by (attributes i) (requests i) (parents i) (c.in_ok-external.ensures i))
