use Rattle.std.proofs.Common.{◌≡◌, ◌++◌, ◌∷◌, [], Bor, List, map, ap, arith, sym, ◌∙◌}
use Rattle.std.proofs.lemmas.List.{map-append}
use Rattle.std.specs.Global.{Vec}
use Rattle.cedar_queries.proofs.BorrowedLemmas.{borrowed}
use Rattle.cedar_queries.proofs.LookupLemmas.{descendants_found, descendants_none}
use Rattle.cedar_queries.proofs.descent.entity_types_in.Goals as goal
use Rattle.cedar_queries.proofs.descent.entity_types_in.Goals.{in-Some+in_ok-add_descendants, in_default}
use Rattle.cedar_queries.specs.Words.{EntityType, PlainName, descendant_names, descendants_of, plain_entry, type_name}

pub returns-clause-names : goal.returns-clause-names
returns-clause-names c =
    let name = type_name c.args.ty.now in
    let below : List PlainName = descendants_of name (map plain_entry c.args.types.now.entries) in
    let before : map (borrowed type_name) c.match-get.names.items ≡ below = elim c.match-get.branch [
      | in-Some+in_ok-add_descendants w ↦
          ap (λ (names : Vec (Bor EntityType)). map (borrowed type_name) names.items) w.names-is
          ∙ (w.in_ok-add_descendants.ensures.names
          ∙ (ap (λ items. map (borrowed type_name) items ++ descendant_names w.in-Some.entity_type.now) c.new-names.ensures.items
          ∙ sym (descendants_found c.args.types.now c.args.ty.now w.in-Some.entity_type.now (sym w.in-Some.ensures.value))))
      | in_default w ↦
          ap (λ (names : Vec (Bor EntityType)). map (borrowed type_name) names.items) w.names-is
          ∙ (ap (map (borrowed type_name)) c.new-names.ensures.items
          ∙ sym (descendants_none c.args.types.now c.args.ty.now (sym w.in_default.ensures.value)))
    ] in
    cc (c.in_ok-push.ensures.items, map-append (borrowed type_name) c.match-get.names.items (c.args.ty ∷ []), before)

pub returns-clause-once : goal.returns-clause-once
returns-clause-once c = elim c.match-get.branch [
  | in-Some+in_ok-add_descendants w ↦
      rw (descendants_found c.args.types.now c.args.ty.now w.in-Some.entity_type.now (sym w.in-Some.ensures.value))
      w.in_ok-add_descendants.ensures.once
  | in_default w ↦
      rw (descendants_none c.args.types.now c.args.ty.now (sym w.in_default.ensures.value))
      (λ i j d before below. absurd (omega arith))
]
