use Rattle.std.proofs.Common.{◌≡◌, [], ◌∷◌, ◌++◌, ap, cond, map, sym, take, ◌∙◌}
use Rattle.std.proofs.lemmas.List.{append-nil, map-append}
use Rattle.std.specs.List.{flat_map}
use Rattle.cedar_schema.proofs.InOrder.{flat_map_next, flat_map_whole}
use Rattle.cedar_schema.proofs.ShownLemmas.{each_to_show, one_to_show}
use Rattle.cedar_schema.proofs.common_types.with_common_types.Goals as goal
use Rattle.cedar_schema.proofs.common_types.with_common_types.Goals.{then-is_to_be_shown+in_ok-at+in_ok-push, else-is_to_be_shown}
use Rattle.cedar_schema.specs.Words.{declared_common_type, shown_common_type}

-- one more common type adds itself where it is to be shown, and nothing elsewhere
pub loop-def-preserved : goal.loop-def-preserved
loop-def-preserved g c =
    let N = g.row.N.Denot in
    let def = c.def-item.result in
    let before = map shown_common_type c.args.shown.items in
    let so_far = before ++ flat_map (one_to_show N) (take c.loop-def.def-index c.args.defs.now) in
    let onwards = flat_map_next (one_to_show N) before c.args.defs.now c.loop-def.def-index def c.loop-def-test.true c.def-item.is in
    elim c.if-is_to_be_shown.branch [
      | then-is_to_be_shown+in_ok-at+in_ok-push w ↦
          let shows : shown_common_type w.in_ok-at.field-0 ≡ declared_common_type N def =
          λ i. record {
            base = w.in_ok-at.ensures.name i;
            at = record { name = w.in_ok-at.ensures.full_name i; loc = w.in_ok-at.ensures.name_loc i };
            type_loc = (w.in_ok-at.ensures.type_loc ∙ w.type_loc.ensures) i;
          } in
          ap (λ it. map shown_common_type it.items) w.shown-is
          ∙ (ap (map shown_common_type) w.in_ok-push.ensures.items
          ∙ (map-append shown_common_type c.loop-def.shown.items (w.in_ok-at.field-0 ∷ [])
          ∙ ((λ i. c.loop-def.invariant i ++ shows i ∷ [])
          ∙ ((λ i. so_far ++ cond ((sym w.if-is_to_be_shown.true ∙ c.is_to_be_shown.ensures) i) (declared_common_type N def ∷ []) [])
          ∙ onwards))))
      | else-is_to_be_shown w ↦
          ap (λ it. map shown_common_type it.items) w.shown-is
          ∙ (c.loop-def.invariant
          ∙ (sym (append-nil so_far)
          ∙ ((λ i. so_far ++ cond ((sym w.if-is_to_be_shown.false ∙ c.is_to_be_shown.ensures) i) (declared_common_type N def ∷ []) [])
          ∙ onwards)))
    ]

pub returns : goal.returns
returns g c =
    let before = map shown_common_type c.args.shown.items in
    c.loop-def.invariant
    ∙ (flat_map_whole (one_to_show g.row.N.Denot) before c.args.defs.now c.loop-def.def-index c.loop-def-test.false
    ∙ ap (λ more. before ++ more) (sym (each_to_show g.row.N.Denot c.args.defs.now)))
