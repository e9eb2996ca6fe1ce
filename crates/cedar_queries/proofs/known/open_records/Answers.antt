use Rattle.std.proofs.Common.{◌++◌, ◌∷◌, [], List, ap, append_assoc, map, sym, ◌∙◌}
use Rattle.std.proofs.lemmas.List.{map-append}
use Rattle.std.specs.Slice.Iter.{iter_rest}
use Rattle.cedar_queries.proofs.known.open_records.Goals as goal
use Rattle.cedar_queries.specs.Words.{EntityType, Fields, OpenAttributes, PlainName, Ty, «Type», open_record, plain_entry, record_of, ty_of, type_name}
use Rattle.cedar_types.proofs.MemberParts.{ty_of-record}
use Rattle.cedar_types.specs.declared.types.«Type».TheVariants as variant

pub loop-ty-preserved : goal.loop-ty-preserved
loop-ty-preserved c =
    let record_at : PlainName → Ty = open_record (map plain_entry c.args.types.now.entries) in
    let done : List Ty = map ty_of c.loop-ty.records.items in
    let left : List EntityType → List Ty = λ types. map record_at (map type_name types) in
    let rest : List EntityType = iter_rest c.next.new.self in
    let made : «Type» = variant.Record c.in_ok-declared_attributes.field-0 OpenAttributes in
    ap (λ (items : List «Type»). map ty_of items ++ left rest) c.in_ok-push.ensures.items
    ∙ ap (λ types. types ++ left rest) (map-append ty_of c.loop-ty.records.items (made ∷ []))
    ∙ append_assoc done (ty_of made ∷ []) (left rest)
    ∙ ap (λ (ty : Ty). done ++ ty ∷ left rest) (ty_of-record c.in_ok-declared_attributes.field-0 OpenAttributes)
    ∙ ap (λ (fields : Fields). done ++ record_of fields OpenAttributes ∷ left rest) c.in_ok-declared_attributes.ensures
    ∙ ap (λ types. done ++ left types) (sym c.in-Some.ensures.steps)
    ∙ c.loop-ty.invariant
