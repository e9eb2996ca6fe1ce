use Rattle.std.proofs.Common.{Bool, List, None, OnOk, Some, ℕ, ap, refl, subst, sym, ◌∙◌}
use Rattle.std.proofs.lemmas.Result.{err_from_is_err_and}
use Rattle.cedar_ast.proofs.Basics.{OnOk-map}
use Rattle.cedar_json_writer.proofs.WritingLemmas.{begun, checked, checked_as, member_flaw, members_ended, members_free, object_added, object_by, turn}
use Rattle.cedar_json_writer.proofs.WrittenTypes.{FreeType, attribute_added, attributes_shape, either_fields, either_free, entity_fields, entity_free, extension_free, listed, long_fields, long_free, record_fields, record_flaw, record_free, set_fields, set_flaw, set_free, text_fields, text_free, truth_fields, truth_free}
use Rattle.cedar_json_writer.proofs.types.+type_writing.Goals as goal
use Rattle.cedar_json_writer.specs.Words.{AddsField, AddsFields, Expr, IsChecked, IsFlawOf, RawName, SoundType, attribute_document, out-RecordType, raw_attribute, raw_expr, raw_reference, raw_variant, type_flaws, type_members}
use Rattle.cedar_schema_ast.proofs.ExprLemmas.{raw_attribute-parts, raw_record-entries}
use Rattle.cedar_schema_ast.proofs.VariantLemmas.{raw_variant-Boolean, raw_variant-Entity, raw_variant-Long, raw_variant-String, type-CommonTypeRef, variant-EntityOrCommon, variant-Extension}
use Rattle.cedar_schema_ast.specs.declared.json_schema.type_of.TypeOfAttribute.{out-TypeOfAttribute}

-- the one field of the string type holds the word `String`
pub write_variant-returns-in-String-clause-written : goal.write_variant-returns-in-String-clause-written
write_variant-returns-in-String-clause-written t c =
    subst (λ (ty : Expr). OnOk c.write_word.result (AddsFields c.args.out.now c.write_word.new.out (type_members ty)))
    (sym (ap (raw_variant None) c.in-String.is ∙ raw_variant-String None))
    (OnOk-map c.write_word.result c.write_word.ensures.written (text_fields c.args.out.now c.write_word.new.out))

-- the string type has no flaws
pub write_variant-returns-in-String-clause-checked : goal.write_variant-returns-in-String-clause-checked
write_variant-returns-in-String-clause-checked t c =
    subst (λ (ty : Expr). IsChecked c.write_word.result (type_flaws ty) (SoundType ty)) (sym (ap (raw_variant None) c.in-String.is ∙ raw_variant-String None))
    (checked c.write_word.result c.write_word.ensures.fault text_free)

-- the one field of the long type holds the word `Long`
pub write_variant-returns-in-Long-clause-written : goal.write_variant-returns-in-Long-clause-written
write_variant-returns-in-Long-clause-written t c =
    subst (λ (ty : Expr). OnOk c.write_word-in-Long.result (AddsFields c.args.out.now c.write_word-in-Long.new.out (type_members ty)))
    (sym (ap (raw_variant None) c.in-Long.is ∙ raw_variant-Long None))
    (OnOk-map c.write_word-in-Long.result c.write_word-in-Long.ensures.written (long_fields c.args.out.now c.write_word-in-Long.new.out))

-- the long type has no flaws
pub write_variant-returns-in-Long-clause-checked : goal.write_variant-returns-in-Long-clause-checked
write_variant-returns-in-Long-clause-checked t c =
    subst (λ (ty : Expr). IsChecked c.write_word-in-Long.result (type_flaws ty) (SoundType ty)) (sym (ap (raw_variant None) c.in-Long.is ∙ raw_variant-Long None))
    (checked c.write_word-in-Long.result c.write_word-in-Long.ensures.fault long_free)

-- the one field of the boolean type holds the word `Boolean`
pub write_variant-returns-in-Boolean-clause-written : goal.write_variant-returns-in-Boolean-clause-written
write_variant-returns-in-Boolean-clause-written t c =
    subst (λ (ty : Expr). OnOk c.write_word-in-Boolean.result (AddsFields c.args.out.now c.write_word-in-Boolean.new.out (type_members ty)))
    (sym (ap (raw_variant None) c.in-Boolean.is ∙ raw_variant-Boolean None))
    (OnOk-map c.write_word-in-Boolean.result c.write_word-in-Boolean.ensures.written (truth_fields c.args.out.now c.write_word-in-Boolean.new.out))

-- the boolean type has no flaws
pub write_variant-returns-in-Boolean-clause-checked : goal.write_variant-returns-in-Boolean-clause-checked
write_variant-returns-in-Boolean-clause-checked t c =
    subst (λ (ty : Expr). IsChecked c.write_word-in-Boolean.result (type_flaws ty) (SoundType ty)) (sym (ap (raw_variant None) c.in-Boolean.is ∙ raw_variant-Boolean None))
    (checked c.write_word-in-Boolean.result c.write_word-in-Boolean.ensures.fault truth_free)

-- a reference to an entity type is written as the word `Entity` and the name
pub write_variant-returns-in-Entity-clause-written : goal.write_variant-returns-in-Entity-clause-written
write_variant-returns-in-Entity-clause-written t c =
    subst (λ (ty : Expr). OnOk c.write_named.result (AddsFields c.args.out.now c.write_named.new.out (type_members ty)))
    (sym (ap (raw_variant None) c.in-Entity.is ∙ raw_variant-Entity None c.in-Entity.name))
    (OnOk-map c.write_named.result c.write_named.ensures.written (entity_fields c.args.out.now c.write_named.new.out c.in-Entity.name))

-- a reference to an entity type has no flaws
pub write_variant-returns-in-Entity-clause-checked : goal.write_variant-returns-in-Entity-clause-checked
write_variant-returns-in-Entity-clause-checked t c =
    subst (λ (ty : Expr). IsChecked c.write_named.result (type_flaws ty) (SoundType ty)) (sym (ap (raw_variant None) c.in-Entity.is ∙ raw_variant-Entity None c.in-Entity.name))
    (checked c.write_named.result c.write_named.ensures.fault (entity_free c.in-Entity.name))

-- a reference to an entity or common type is written as the word `EntityOrCommon` and the name
pub write_variant-returns-in-EntityOrCommon-clause-written : goal.write_variant-returns-in-EntityOrCommon-clause-written
write_variant-returns-in-EntityOrCommon-clause-written t c =
    subst (λ (ty : Expr). OnOk c.write_named-in-EntityOrCommon.result (AddsFields c.args.out.now c.write_named-in-EntityOrCommon.new.out (type_members ty)))
    (sym (ap (raw_variant None) c.in-EntityOrCommon.is ∙ variant-EntityOrCommon RawName (raw_reference None) c.in-EntityOrCommon.type_name))
    (OnOk-map c.write_named-in-EntityOrCommon.result c.write_named-in-EntityOrCommon.ensures.written (either_fields c.args.out.now c.write_named-in-EntityOrCommon.new.out c.in-EntityOrCommon.type_name))

-- a reference to an entity or common type has no flaws
pub write_variant-returns-in-EntityOrCommon-clause-checked : goal.write_variant-returns-in-EntityOrCommon-clause-checked
write_variant-returns-in-EntityOrCommon-clause-checked t c =
    subst (λ (ty : Expr). IsChecked c.write_named-in-EntityOrCommon.result (type_flaws ty) (SoundType ty)) (sym (ap (raw_variant None) c.in-EntityOrCommon.is ∙ variant-EntityOrCommon RawName (raw_reference None) c.in-EntityOrCommon.type_name))
    (checked c.write_named-in-EntityOrCommon.result c.write_named-in-EntityOrCommon.ensures.fault (either_free c.in-EntityOrCommon.type_name))

-- an extension type is written as the word `Extension` and its name
pub write_variant-returns-in-Extension-clause-written : goal.write_variant-returns-in-Extension-clause-written
write_variant-returns-in-Extension-clause-written t c =
    subst (λ (ty : Expr). OnOk c.write_extension.result (AddsFields c.args.out.now c.write_extension.new.out (type_members ty)))
    (sym (ap (raw_variant None) c.in-Extension.is ∙ variant-Extension RawName (raw_reference None) c.in-Extension.name)) c.write_extension.ensures.written

-- an extension type has no flaws, as its name isn't reserved
pub write_variant-returns-in-Extension-clause-checked : goal.write_variant-returns-in-Extension-clause-checked
write_variant-returns-in-Extension-clause-checked t c =
    subst (λ (ty : Expr). IsChecked c.write_extension.result (type_flaws ty) (SoundType ty)) (sym (ap (raw_variant None) c.in-Extension.is ∙ variant-Extension RawName (raw_reference None) c.in-Extension.name))
    (checked c.write_extension.result c.write_extension.ensures.fault (extension_free c.in-Extension.name))

-- a set type is written as the word `Set` and the type of its elements
pub write_set-returns-clause-written : goal.write_set-returns-clause-written
write_set-returns-clause-written t c =
    OnOk-map c.write_type.result c.write_type.ensures.written
    (set_fields c.args.out.now c.write_form.new.out c.write_type.new.out (raw_expr None c.args.element.now) c.in_ok-write_form.ensures)

-- a record type is written as the word `Record`, the object of its attributes, and its flag if set
pub write_record-returns-clause-written : goal.write_record-returns-clause-written
write_record-returns-clause-written t c =
    let it = c.args.record_type.now in
    let entries = (out-RecordType RawName it).attributes.entries in
    subst (λ (ty : Expr). OnOk c.close_attributes.result (AddsFields c.args.out.now c.close_attributes.new.out (type_members ty)))
    (sym (raw_record-entries None it))
    (OnOk-map c.close_attributes.result c.close_attributes.ensures.written
    (record_fields c.args.out.now c.write_form.new.out c.token.new.self _ c.close_attributes.new.out (listed entries)
    (out-RecordType RawName it).additional_attributes c.in_ok-write_form.ensures c.in_ok-token.ensures.ok
    (members_ended attributes_shape c.token.new.self c.loop-name.out _ entries c.loop-name.name-iterator c.loop-name.invariant
    c.in-None.ensures.steps.0 refl)))

-- at first all attributes are left, and none is written
pub write_record-loop-name-init : goal.write_record-loop-name-init
write_record-loop-name-init t c = begun attributes_shape _ _ _ _ refl c.into_iter-name-iterator.ensures.into_iter_gives.0

-- one more attribute is written behind its name, and has no flaws
pub write_record-loop-name-preserved : goal.write_record-loop-name-preserved
write_record-loop-name-preserved t c =
    let it = raw_attribute None c.in-Some.attribute.now in
    turn attributes_shape c.token.new.self c.loop-name.out c.write_attribute.new.out
    (out-RecordType RawName c.args.record_type.now).attributes.entries c.loop-name.name-iterator c.next.new.self
    (c.in-Some.name.now, c.in-Some.attribute.now) c.loop-name.invariant c.in-Some.ensures.steps
    (subst (λ (text : List ℕ). AddsField c.loop-name.out c.write_attribute.new.out text (Some (attribute_document it.0 it.1))) c.as_str.ensures.value
    c.in_ok-write_attribute.ensures.written) c.in_ok-write_attribute.ensures.checked

-- no attribute had a flaw, and their names are in order, so the record type has none
pub write_record-returns-clause-checked : goal.write_record-returns-clause-checked
write_record-returns-clause-checked t c =
    let entries = (out-RecordType RawName c.args.record_type.now).attributes.entries in
    checked c.close_attributes.result c.close_attributes.ensures.fault (subst FreeType (sym (raw_record-entries None c.args.record_type.now))
    (record_free entries (out-RecordType RawName c.args.record_type.now).additional_attributes
    c.into_iter-name-iterator.ensures.into_iter_gives.5
    (members_free attributes_shape c.token.new.self c.loop-name.out entries c.loop-name.name-iterator c.loop-name.invariant
    c.in-None.ensures.steps.0)))

-- a flaw of one attribute is a flaw of the record type
pub write_record-returns-in_err-write_attribute-clause-checked : goal.write_record-returns-in_err-write_attribute-clause-checked
write_record-returns-in_err-write_attribute-clause-checked t c =
    let it = c.args.record_type.now in
    let entries = (out-RecordType RawName it).attributes.entries in
    let f = c.in_err-write_attribute.field-0.0 in
    let p = err_from_is_err_and c.from_residual-in_err-write_attribute.result c.from_residual-in_err-write_attribute.ensures.1 in
    let flawed = member_flaw attributes_shape c.token.new.self c.loop-name.out entries c.loop-name.name-iterator c.next.new.self
    (c.in-Some.name.now, c.in-Some.attribute.now) f c.loop-name.invariant c.in-Some.ensures.steps c.in_err-write_attribute.ensures.checked in
    rw (p.1, p.2) (subst (λ (ty : Expr). IsFlawOf (type_flaws ty) f) (sym (raw_record-entries None it))
    (record_flaw (listed entries) (out-RecordType RawName it).additional_attributes f flawed))

-- a type that refers to a common type has just the flaws of the reference
pub write_fields-returns-in-CommonTypeRef-clause-checked : goal.write_fields-returns-in-CommonTypeRef-clause-checked
write_fields-returns-in-CommonTypeRef-clause-checked t c =
    subst (λ (ty : Expr). IsChecked c.write_common.result (type_flaws ty) (SoundType ty))
    (sym (ap (raw_expr None) c.in-CommonTypeRef.is ∙ type-CommonTypeRef RawName (raw_reference None) c.in-CommonTypeRef.type_name _))
    c.write_common.ensures.checked

-- the flaws of a set type are those of its element type
pub write_set-returns-clause-checked : goal.write_set-returns-clause-checked
write_set-returns-clause-checked t c =
    let element = raw_expr None c.args.element.now in
    checked_as c.write_type.result c.write_type.ensures.checked (set_free element) (set_flaw element)

-- an attribute is written as the fields of its type and its flag if it is optional
pub write_attribute-returns-clause-written : goal.write_attribute-returns-clause-written
write_attribute-returns-clause-written t c =
    let it = out-TypeOfAttribute RawName c.args.attribute.now in
    subst (λ (parts : Bool × Expr). OnOk c.close_with_flag.result (AddsField c.args.out.now c.close_with_flag.new.out c.args.name.now
    (Some (attribute_document parts.0 parts.1))))
    (sym (raw_attribute-parts None c.args.attribute.now))
    (OnOk-map c.close_with_flag.result c.close_with_flag.ensures.written
    (λ ended. object_by c.args.out.now c.open_object.new.out c.close_with_flag.new.out c.args.name.now
    (attribute_document it.required (raw_expr None it.ty)) c.in_ok-open_object.ensures
    (λ begun. attribute_added _ c.open_object.new.out c.write_fields.new.out c.close_with_flag.new.out it.required
    (raw_expr None it.ty) begun c.in_ok-write_fields.ensures.written ended)))

-- and has just the flaws of its type
pub write_attribute-returns-clause-checked : goal.write_attribute-returns-clause-checked
write_attribute-returns-clause-checked t c =
    subst (λ (parts : Bool × Expr). IsChecked c.close_with_flag.result (type_flaws parts.1) (SoundType parts.1))
    (sym (raw_attribute-parts None c.args.attribute.now))
    (checked c.close_with_flag.result c.close_with_flag.ensures.fault c.in_ok-write_fields.ensures.checked)

-- a type is written as the object of its fields
pub write_type-returns-clause-written : goal.write_type-returns-clause-written
write_type-returns-clause-written t c =
    OnOk-map c.close_object.result c.close_object.ensures.written
    (λ ended. object_added c.args.out.now c.token.new.self c.write_fields.new.out c.close_object.new.out (type_members (raw_expr None c.args.ty.now))
    c.in_ok-token.ensures.ok c.in_ok-write_fields.ensures.written ended)

-- and has their flaws
pub write_type-returns-clause-checked : goal.write_type-returns-clause-checked
write_type-returns-clause-checked t c = checked c.close_object.result c.close_object.ensures.fault c.in_ok-write_fields.ensures.checked
