use Rattle.std.proofs.Common.{◌≡◌, ◌+◌, ◌*◌, ◌<◌, length, Some, None, option_and_then, option_map, codes, ap, sym, subst, ◌∙◌, arith, rules}
use Rattle.std.proofs.lemmas.Result.{err_from_is_err_and}
use Rattle.cedar_json.proofs.FieldLemmas.{get-smaller, nth_member-is, object_field-smaller, object_held}
use Rattle.cedar_json.proofs.ReadLemmas.{read_inside, refused_inside}
use Rattle.cedar_json.proofs.TypeLemmas.{all_read, attribute_read, attributes_field-held, attributes_field-none, described_too, element_field-held, members_from_index, name_held, no_annotations, no_attribute, no_name_held, no_required, no_type, one_more, raw_attribute-made, raw_record-made, record_of-no_flag, type_by_word-either, type_by_word-entity, type_by_word-other, type_with-known, type_with-no_word, type_with-unknown}
use Rattle.cedar_json.proofs.type_reading.+type_reading.Goals as goal
use Rattle.cedar_json.specs.Words.{Entity, IsPutUnder, RawName, additional_field, attribute_of, attributes_field, element_field, member_at, members_from, plain_members, raw_attribute, raw_expr, raw_name, raw_reference, record_expr, record_of, roll-RecordType, set_expr, text_held, type_by_word, type_of}
use Rattle.cedar_schema_ast.proofs.VariantLemmas.{variant-Boolean, variant-Entity, variant-EntityOrCommon, variant-Long, variant-Record, variant-Set, variant-String}
use Rattle.cedar_schema_ast.specs.Words.{named, reference_to}
use Rattle.cedar_schema_ast.specs.declared.json_schema.reference_type.ReferenceType.TheVariants.{CommonOrEntity}
use Rattle.json.proofs.Trees.{member_smaller}
use Rattle.json.specs.Find.{get}
use Rattle.json.specs.Json.{object}
use Rattle.json.specs.Tree.{json_tokens, members_tokens}
use Rattle.json.specs.Value.{value_view, members_view}

-- a value describes no attribute where its field `required` is no flag
pub read_attribute-returns-in_err-required : goal.read_attribute-returns-in_err-required
read_attribute-returns-in_err-required t c =
    let p = err_from_is_err_and c.from_residual.result c.from_residual.ensures.1 in
    rw (p.1, p.2) (λ other. no_required (value_view c.args.value.now) c.in_err-required.ensures.0, c.in_err-required.ensures.1)

-- a value describes no attribute where its field `annotations` holds no annotations
pub read_attribute-returns-in_err-check_annotations : goal.read_attribute-returns-in_err-check_annotations
read_attribute-returns-in_err-check_annotations t c =
    let p = err_from_is_err_and c.from_residual-in_err-check_annotations.result c.from_residual-in_err-check_annotations.ensures.1 in
    rw (p.1, p.2) (λ other. no_annotations (value_view c.args.value.now) c.in_err-check_annotations.ensures.0, c.in_err-check_annotations.ensures.1)

-- a value describes no attribute where it describes no type
pub read_attribute-returns-in_err-ty : goal.read_attribute-returns-in_err-ty
read_attribute-returns-in_err-ty t c =
    let p = err_from_is_err_and c.from_residual-in_err-ty.result c.from_residual-in_err-ty.ensures.1 in
    rw (p.1, p.2) (λ other. no_type (value_view c.args.value.now) (c.in_err-ty.ensures.0 other), c.in_err-ty.ensures.1)

-- the attribute described is the type and the flag that were read
pub read_attribute-returns : goal.read_attribute-returns
read_attribute-returns t c =
    attribute_read (value_view c.args.value.now) c.in_ok-required.required (raw_expr None c.in_ok-ty.ty) c.in_ok-required.ensures
    c.in_ok-check_annotations.ensures c.in_ok-ty.ensures
    ∙ ap Some (sym (raw_attribute-made c.in_ok-ty.ty c.in_ok-required.required c.key_loc.result))

-- the value of one member has fewer tokens than all members, so the reading ends
pub read_attributes-read_attribute-read-requires : goal.read_attributes-read_attribute-read-requires
read_attributes-read_attribute-read-requires t c =
    let xs = c.deref-member-items.result.now in
    let x = c.member-item.result in
    let below : length (json_tokens (value_view x.1)) < length (members_tokens (members_view c.args.members.now.items)) =
    subst (λ ys. length (json_tokens (value_view x.1)) < length (members_tokens (members_view ys))) c.deref-member-items.ensures.value
    (subst (λ y. length (json_tokens (value_view y.1)) < length (members_tokens (members_view xs))) (sym c.member-item.is) (member_smaller xs c.loop-index.index x c.loop-index-test.true)) in
    let smaller : 4 * length (json_tokens (value_view x.1)) + 3 < 4 * length (members_tokens (members_view c.args.members.now.items)) = omega (arith, below) in
    search rules

-- where one member describes no attribute, all together describe none, and the fault of the
-- member's value is found in the object at the index of the member
pub read_attributes-returns-in_err-put_read : goal.read_attributes-returns-in_err-put_read
read_attributes-returns-in_err-put_read t c =
    let x = c.member-item.result in
    let items = c.deref-member-items.result.now in
    let all = c.args.members.now.items in
    let i = c.loop-index.index in
    let same = c.deref-member-items.ensures.value in
    let here = members_from_index items all i x same c.loop-index-test.true c.member-item.is in
    let found = nth_member-is items all i x same c.loop-index-test.true c.member-item.is in
    let p = err_from_is_err_and c.from_residual.result c.from_residual.ensures.1 in
    let refused = refused_inside c.read_attribute-read.result (value_view x.1) (attribute_of (value_view x.1)) (raw_attribute None) (object (members_view all))
    (λ j k. member_at i j ≡ Some (x.0.now, k)) c.in_err-put_read.field-0.0 c.read_attribute-read.ensures c.in_err-put_read.ensures found in
    rw (p.1, p.2) (λ other. no_attribute all i x c.loop-index.attributes.entries here c.loop-index.invariant (refused.0 other), refused.1)

-- one more attribute is read and put under its name
pub read_attributes-loop-index-preserved : goal.read_attributes-loop-index-preserved
read_attributes-loop-index-preserved t c =
    let x = c.member-item.result in
    let all = c.args.members.now.items in
    let here = members_from_index c.deref-member-items.result.now all c.loop-index.index x c.deref-member-items.ensures.value c.loop-index-test.true
    c.member-item.is in
    let more = read_inside c.read_attribute-read.result (value_view x.1) (attribute_of (value_view x.1)) (raw_attribute None)
    (IsPutUnder x.0.now c.loop-index.attributes.entries c.put_read.new.all.entries) c.read_attribute-read.ensures c.in_ok-put_read.ensures in
    one_more all c.loop-index.index x c.loop-index.attributes.entries here c.loop-index.invariant more.2.0 more.0
    c.put_read.new.all.entries more.1 more.2.1 more.2.2

-- where no member is left, all attributes were read
pub read_attributes-returns : goal.read_attributes-returns
read_attributes-returns t c =
    all_read c.deref-member-items.result.now c.args.members.now.items c.loop-index.index c.loop-index.attributes.entries
    c.deref-member-items.ensures.value c.loop-index-test.false c.loop-index.invariant

-- the value of the field `element` has fewer tokens than the whole value, so the reading ends
pub read_set-read_type_of-requires : goal.read_set-read_type_of-requires
read_set-read_type_of-requires t c =
    let below : length (json_tokens (value_view c.in_ok-held.held.now)) < length (json_tokens (value_view c.args.value.now)) =
    get-smaller (codes "element") _ _ c.in_ok-held.ensures in
    let smaller : 4 * length (json_tokens (value_view c.in_ok-held.held.now)) + 2 < 4 * length (json_tokens (value_view c.args.value.now)) =
    omega (arith, below) in
    search rules

-- the type described is that of sets of what the field `element` describes
pub read_set-returns-in_ok-element-in-Ok : goal.read_set-returns-in_ok-element-in-Ok
read_set-returns-in_ok-element-in-Ok t c =
    let made = c.plain_type.ensures ∙ variant-Set RawName (raw_reference None) c.in_ok-element-in-Ok.element
    ∙ ap (λ ty. set_expr (raw_expr None ty)) c.in_ok-element-in-Ok.ensures.ok in
    ap (option_map set_expr) (element_field-held (value_view c.args.value.now) (value_view c.in_ok-held.held.now) c.in_ok-held.ensures
    ∙ c.in-Ok.ensures) ∙ ap Some (sym made)

-- where the field `element` describes no type, there is no type of such sets, and the fault is
-- found in the value under `element`
pub read_set-returns-in-Err : goal.read_set-returns-in-Err
read_set-returns-in-Err t c =
    let j = value_view c.args.value.now in
    let held = value_view c.in_ok-held.held.now in (
      λ other. ap (option_map set_expr) (element_field-held j held c.in_ok-held.ensures
          ∙ c.in-Err.ensures.0 (c.within.ensures.memory other)),
      c.within.ensures.place j held c.in_ok-held.ensures c.in-Err.ensures.1,
    )

-- there is no type of such sets where there is no field `element`
pub read_set-returns-in_err-held : goal.read_set-returns-in_err-held
read_set-returns-in_err-held t c =
    let p = err_from_is_err_and c.from_residual.result c.from_residual.ensures.1 in
    rw (p.1, p.2) (λ other. ap (λ o. option_map set_expr (option_and_then type_of o)) c.in_err-held.ensures.0, c.in_err-held.ensures.1)

-- a value describes no type where its field `type` holds no text
pub read_type_of-returns-in_err-word : goal.read_type_of-returns-in_err-word
read_type_of-returns-in_err-word t c =
    let p = err_from_is_err_and c.from_residual.result c.from_residual.ensures.1 in
    rw (p.1, p.2) (λ other. type_with-no_word c.args.row (value_view c.args.value.now) c.in_err-word.ensures.0, c.in_err-word.ensures.1)

-- a value describes no type where not all of its fields are known
pub read_type_of-returns-in_err-check_fields : goal.read_type_of-returns-in_err-check_fields
read_type_of-returns-in_err-check_fields t c =
    let p = err_from_is_err_and c.from_residual-in_err-check_fields.result c.from_residual-in_err-check_fields.ensures.1 in
    rw (p.1, p.2) (
      λ other. type_with-unknown c.args.row (value_view c.args.value.now) c.in_ok-word.word.now c.in_ok-word.ensures
          c.in_err-check_fields.ensures.0,
      c.in_err-check_fields.ensures.1,
    )

-- where all fields are known, the type is that of the word in the field `type`; the word is what
-- that field holds, so a fault of the word is true of the value
pub read_type_of-returns : goal.read_type_of-returns
read_type_of-returns t c =
    described_too c.read_type_by.result (raw_expr None) _ _ _ _
    (type_with-known c.args.row (value_view c.args.value.now) c.in_ok-word.word.now c.in_ok-word.ensures c.in_ok-check_fields.ensures)
    (λ refusal true_of. true_of c.in_ok-word.ensures) c.read_type_by.ensures

-- the word `String` stands for the string type
pub read_type_by-returns-in-String : goal.read_type_by-returns-in-String
read_type_by-returns-in-String t c =
    let j = value_view c.args.value.now in
    let named = ap (λ word. type_by_word word (element_field j) (attributes_field j) (additional_field j) (text_held (codes "name") j)) c.in-String.is in
    named ∙ ap Some (sym (c.plain_type.ensures ∙ variant-String RawName (raw_reference None)))

-- the word `Long` stands for the long type
pub read_type_by-returns-in-Long : goal.read_type_by-returns-in-Long
read_type_by-returns-in-Long t c =
    let j = value_view c.args.value.now in
    let named = ap (λ word. type_by_word word (element_field j) (attributes_field j) (additional_field j) (text_held (codes "name") j)) c.in-Long.is in
    named ∙ ap Some (sym (c.plain_type-in-Long.ensures ∙ variant-Long RawName (raw_reference None)))

-- the word `Boolean` stands for the boolean type
pub read_type_by-returns-in-Boolean : goal.read_type_by-returns-in-Boolean
read_type_by-returns-in-Boolean t c =
    let j = value_view c.args.value.now in
    let named = ap (λ word. type_by_word word (element_field j) (attributes_field j) (additional_field j) (text_held (codes "name") j)) c.in-Boolean.is in
    named ∙ ap Some (sym (c.plain_type-in-Boolean.ensures ∙ variant-Boolean RawName (raw_reference None)))

-- the word `Set` stands for the set type that the field `element` tells
pub read_type_by-returns-in-Set : goal.read_type_by-returns-in-Set
read_type_by-returns-in-Set t c =
    let j = value_view c.args.value.now in
    let named = ap (λ word. type_by_word word (element_field j) (attributes_field j) (additional_field j) (text_held (codes "name") j)) c.in-Set.is in
    described_too c.read_set.result (raw_expr None) _ _ _ _ named (λ refusal true_of is. true_of) c.read_set.ensures

-- the word `Record` stands for the record type that the fields of the attributes tell
pub read_type_by-returns-in-Record : goal.read_type_by-returns-in-Record
read_type_by-returns-in-Record t c =
    let j = value_view c.args.value.now in
    let named = ap (λ word. type_by_word word (element_field j) (attributes_field j) (additional_field j) (text_held (codes "name") j)) c.in-Record.is in
    described_too c.read_record.result (raw_expr None) _ _ _ _ named (λ refusal true_of is. true_of) c.read_record.ensures

-- the word `Entity` stands for the entity type that the field `name` refers to
pub read_type_by-returns-in_ok-name-in-Entity : goal.read_type_by-returns-in_ok-name-in-Entity
read_type_by-returns-in_ok-name-in-Entity t c =
    let j = value_view c.args.value.now in
    type_by_word-entity c.args.word.now (element_field j) (attributes_field j) (additional_field j) (text_held (codes "name") j) c.in-Entity.is
    ∙ ap (option_map (λ it. named (reference_to None Entity it))) (name_held (get (codes "name") j) (raw_name c.in_ok-name-in-Entity.name) c.in_ok-name-in-Entity.ensures)
    ∙ ap Some (sym (c.plain_type-in-Entity.ensures ∙ variant-Entity RawName (raw_reference None) c.in_ok-name-in-Entity.name))

-- it stands for no type where the field `name` spells no name
pub read_type_by-returns-in_err-name-in-Entity : goal.read_type_by-returns-in_err-name-in-Entity
read_type_by-returns-in_err-name-in-Entity t c =
    let j = value_view c.args.value.now in
    let p = err_from_is_err_and c.from_residual.result c.from_residual.ensures.1 in
    rw (p.1, p.2) (
      λ other. type_by_word-entity c.args.word.now (element_field j) (attributes_field j) (additional_field j) (text_held (codes "name") j) c.in-Entity.is
          ∙ ap (option_map (λ it. named (reference_to None Entity it))) (no_name_held (get (codes "name") j) (c.in_err-name-in-Entity.ensures.0 other)),
      λ _. c.in_err-name-in-Entity.ensures.1,
    )

-- the word `EntityOrCommon` stands for the type that the field `name` refers to
pub read_type_by-returns-in_ok-type_name-in-EntityOrCommon : goal.read_type_by-returns-in_ok-type_name-in-EntityOrCommon
read_type_by-returns-in_ok-type_name-in-EntityOrCommon t c =
    let j = value_view c.args.value.now in
    type_by_word-either c.args.word.now (element_field j) (attributes_field j) (additional_field j) (text_held (codes "name") j) c.in-EntityOrCommon.is
    ∙ ap (option_map (λ it. named (reference_to None CommonOrEntity it))) (name_held (get (codes "name") j) (raw_name c.in_ok-type_name-in-EntityOrCommon.type_name) c.in_ok-type_name-in-EntityOrCommon.ensures)
    ∙ ap Some (sym (c.plain_type-in-EntityOrCommon.ensures ∙ variant-EntityOrCommon RawName (raw_reference None) c.in_ok-type_name-in-EntityOrCommon.type_name))

-- it stands for no type where the field `name` spells no name
pub read_type_by-returns-in_err-type_name-in-EntityOrCommon : goal.read_type_by-returns-in_err-type_name-in-EntityOrCommon
read_type_by-returns-in_err-type_name-in-EntityOrCommon t c =
    let j = value_view c.args.value.now in
    let p = err_from_is_err_and c.from_residual-in_err-type_name-in-EntityOrCommon.result c.from_residual-in_err-type_name-in-EntityOrCommon.ensures.1 in
    rw (p.1, p.2) (
      λ other. type_by_word-either c.args.word.now (element_field j) (attributes_field j) (additional_field j) (text_held (codes "name") j) c.in-EntityOrCommon.is
          ∙ ap (option_map (λ it. named (reference_to None CommonOrEntity it))) (no_name_held (get (codes "name") j) (c.in_err-type_name-in-EntityOrCommon.ensures.0 other)),
      λ _. c.in_err-type_name-in-EntityOrCommon.ensures.1,
    )

-- the word `Extension` stands for the extension type that the field `name` tells
pub read_type_by-returns-in-Extension : goal.read_type_by-returns-in-Extension
read_type_by-returns-in-Extension t c =
    let j = value_view c.args.value.now in
    let named = ap (λ word. type_by_word word (element_field j) (attributes_field j) (additional_field j) (text_held (codes "name") j)) c.in-Extension.is in
    described_too c.extension_type.result (raw_expr None) _ _ _ _ named (λ refusal true_of is. true_of) c.extension_type.ensures

-- any other word is the name of a common type
pub read_type_by-returns-in_default : goal.read_type_by-returns-in_default
read_type_by-returns-in_default t c =
    let j = value_view c.args.value.now in
    let other = type_by_word-other c.args.word.now (element_field j) (attributes_field j) (additional_field j) (text_held (codes "name") j) (record {
      no_text = c.in_default.not-String;
      no_long = c.in_default.not-Long;
      no_truth = c.in_default.not-Boolean;
      no_set = c.in_default.not-Set;
      no_record = c.in_default.not-Record;
      no_entity = c.in_default.not-Entity;
      no_entity_or_common = c.in_default.not-EntityOrCommon;
      no_extension = c.in_default.not-Extension;
    }) in
    described_too c.common_type.result (raw_expr None) _ _ _ _ other (λ refusal true_of. true_of) c.common_type.ensures

-- a value describes no record type where its field `additionalAttributes` is no flag
pub read_record-returns-in_err-additional_attributes : goal.read_record-returns-in_err-additional_attributes
read_record-returns-in_err-additional_attributes t c =
    let j = value_view c.args.value.now in
    let p = err_from_is_err_and c.from_residual.result c.from_residual.ensures.1 in
    rw (p.1, p.2) (
      λ other. ap (λ flag. record_of flag (attributes_field j)) c.in_err-additional_attributes.ensures.0
          ∙ record_of-no_flag (attributes_field j),
      c.in_err-additional_attributes.ensures.1,
    )

-- a value describes no record type where its field `attributes` holds no object
pub read_record-returns-in_err-members : goal.read_record-returns-in_err-members
read_record-returns-in_err-members t c =
    let j = value_view c.args.value.now in
    let p = err_from_is_err_and c.from_residual-in_err-members.result c.from_residual-in_err-members.ensures.1 in
    rw (p.1, p.2) (λ other. ap (record_of (additional_field j)) (attributes_field-none j c.in_err-members.ensures.0), c.in_err-members.ensures.1)

-- the members of the field `attributes` have fewer tokens than the whole value, so the reading ends
pub read_record-read_attributes-requires : goal.read_record-read_attributes-requires
read_record-read_attributes-requires t c =
    let below : length (members_tokens (members_view c.in_ok-members.members.now.items)) < length (json_tokens (value_view c.args.value.now)) =
    object_field-smaller (codes "attributes") _ _ c.in_ok-members.ensures in
    let smaller : 4 * length (members_tokens (members_view c.in_ok-members.members.now.items)) < 4 * length (json_tokens (value_view c.args.value.now)) =
    omega (arith, below) in
    search rules

-- the record type described is the attributes and the flag that were read
pub read_record-returns-in-Ok : goal.read_record-returns-in-Ok
read_record-returns-in-Ok t c =
    let j = value_view c.args.value.now in
    let all = plain_members None c.in-Ok.attributes.entries in
    let flag = c.in_ok-additional_attributes.additional_attributes in
    let made = c.plain_type.ensures
    ∙ variant-Record RawName (raw_reference None) (roll-RecordType RawName (record { attributes = c.in-Ok.attributes; additional_attributes = flag }))
    ∙ raw_record-made c.in-Ok.attributes flag in
    ap (record_of (additional_field j)) (attributes_field-held j _ c.in_ok-members.ensures ∙ c.in-Ok.ensures)
    ∙ ap (option_map (record_expr (members_from all))) c.in_ok-additional_attributes.ensures ∙ ap Some (sym made)

-- a value describes no record type where the members of its field `attributes` describe no
-- attributes, and the fault of the attributes is found in the value under `attributes`
pub read_record-returns-in-Err : goal.read_record-returns-in-Err
read_record-returns-in-Err t c =
    let j = value_view c.args.value.now in
    let ms = members_view c.in_ok-members.members.now.items in (
      λ other. ap (record_of (additional_field j)) (attributes_field-held j _ c.in_ok-members.ensures
          ∙ c.in-Err.ensures.0 (c.within.ensures.memory other)),
      c.within.ensures.place j (object ms) (object_held (get (codes "attributes") j) ms c.in_ok-members.ensures) c.in-Err.ensures.1,
    )
