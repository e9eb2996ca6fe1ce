use Rattle.std.proofs.Common.{refl, subst, sym}
use Rattle.cedar_schema_ast.proofs.CopyLemmas.{Made, copied_attribute, copied_more, copied_plain, copied_record, copied_set}
use Rattle.cedar_schema_ast.proofs.json_schema.copying.+copying.Goals as goal
use Rattle.cedar_schema_ast.specs.Words.{IsTypeCopy, IsVariantCopy, Plain, Set, «Type», TypeVariant, out-RecordType}

-- a plain type is copied as its variant is
pub copy_type-returns-in_ok-ty-in-Plain : goal.copy_type-returns-in_ok-ty-in-Plain
copy_type-returns-in_ok-ty-in-Plain g t c =
    let N = g.row.N.Denot in
    let alike = g.N.FragmentName.is_alike in
    let copy = c.in_ok-ty-in-Plain.ty in
    let P : «Type» N → Type 0 = λ it. IsTypeCopy N alike it (Plain copy c.in-Plain.loc) in
    subst P (sym c.in-Plain.is) (copied_plain N alike c.in-Plain.ty copy c.in-Plain.loc c.in_ok-ty-in-Plain.ensures)

-- a set is copied as its element is
pub copy_variant-returns-in_ok-element-in-Set : goal.copy_variant-returns-in_ok-element-in-Set
copy_variant-returns-in_ok-element-in-Set g t c =
    let N = g.row.N.Denot in
    let alike = g.N.FragmentName.is_alike in
    let element = c.in-Set.element in
    let copy = c.in_ok-element-in-Set.element in
    let P : TypeVariant N → Type 0 = λ it. IsVariantCopy N alike it (Set copy) in
    let From : «Type» N → Type 0 = λ it. IsTypeCopy N alike it c.in_ok-copy-in-Set.copy in
    let To : «Type» N → Type 0 = IsTypeCopy N alike element.value in
    subst P (sym c.in-Set.is) (copied_set N alike element copy
    (subst To (sym c.in_ok-element-in-Set.ensures.ok) (subst From c.deref.ensures c.in_ok-copy-in-Set.ensures)))

-- one more attribute is copied
pub copy_record-loop-name-preserved : goal.copy_record-loop-name-preserved
copy_record-loop-name-preserved g t c =
    let N = g.row.N.Denot in
    let alike = g.N.FragmentName.is_alike in
    let all = (out-RecordType N c.args.record_type.now).attributes.entries in
    copied_more N alike all c.loop-name.attributes.entries c.put.new.map.entries c.loop-name.name-iterator c.next.new.self
    c.in-Some.name.now c.in_ok-clone.field-0 c.in-Some.attribute.now _ c.into_iter-name-iterator.ensures.into_iter_gives.5
    c.in-Some.ensures.steps c.in_ok-clone.ensures.cases
    (copied_attribute N alike c.in-Some.attribute.now _ refl refl c.in_ok-copy_type.ensures) c.in_ok-put.ensures c.loop-name.invariant

-- where none is left, the record is copied
pub copy_record-returns : goal.copy_record-returns
copy_record-returns g t c =
    let N = g.row.N.Denot in
    let it : Made N = record {
      attributes = c.loop-name.attributes;
      additional_attributes = (out-RecordType N c.args.record_type.now).additional_attributes;
    } in
    copied_record N g.N.FragmentName.is_alike c.args.record_type.now it c.loop-name.name-iterator refl
    c.in-None.ensures.steps.0 c.loop-name.invariant
