use Rattle.std.proofs.Common.{◌≡◌, Bool, false, Some, ap, sym, ◌∙◌, string_bytes}
use Rattle.std.specs.Option.{option_map}
use Rattle.cedar_schema_ast.proofs.ExprLemmas.{record_type_expr-made}
use Rattle.cedar_schema_ast.proofs.VariantLemmas.{variant-Record}
use Rattle.cedar_schema_writer.proofs.Answered.{ok_on, ok_to}
use Rattle.cedar_schema_writer.proofs.Refusals.{refusal_passed, refusal_weaker}
use Rattle.cedar_schema_writer.proofs.TypeLemmas.{attributes_all, attributes_more, attributes_none, attributes_sound, next_above, next_sound, put-behind, sound-extension, unsound-none}
use Rattle.cedar_schema_writer.proofs.types.+written.Goals as goal
use Rattle.cedar_schema_writer.specs.Words.{RawName, Ty, attribute_of, extension_of, fields_from, fields_of, known_names, plain_attributes, plain_members, plain_name, plain_namespace, raw_reference, raw_variant, record_expr, ty_of, type_written}
use Rattle.cedar_types.proofs.EqualityLaws.{attribute_of-parts}
use Rattle.cedar_types.proofs.MemberParts.{ty_of-extension}

-- at first no attribute is written
pub write_record-loop-name-init : goal.write_record-loop-name-init
write_record-loop-name-init t c =
    let namespace = plain_namespace c.args.namespace.now in
    attributes_none (known_names c.args.known.now) namespace (fields_of c.args.attrs.now) _ _
    (cc (c.into_iter-name-iterator.ensures.into_iter_gives, c.iter-name-items.ensures.attributes))
    (ap (plain_members namespace) c.new-attributes.ensures.empty)

-- an attribute that is not sound makes the record unsound
pub write_record-returns-in_err-ty-clause-refusal : goal.write_record-returns-in_err-ty-clause-refusal
write_record-returns-in_err-ty-clause-refusal t c =
    let names = known_names c.args.known.now in
    let namespace = plain_namespace c.args.namespace.now in
    let attribute = c.in-Some.attribute.now in
    let same : ty_of c.deref.result.now ≡ (attribute_of attribute).1 =
    ap ty_of c.deref.ensures ∙ ap (λ (p : Bool × Ty). p.1) (sym (attribute_of-parts attribute)) in
    refusal_passed _ _ c.from_residual.ensures.1 c.in_err-ty.ensures.refusal
    (λ unsound sound. unsound (rw same (next_sound names namespace (fields_of c.args.attrs.now) _ _ _ (string_bytes c.in-Some.name.now)
    (attribute_of attribute).0 (attribute_of attribute).1
    (ap (λ entries. fields_from (plain_attributes entries)) c.in-Some.ensures.steps) c.loop-name.invariant sound)))

-- one more attribute is written behind the others, as the names are in order
pub write_record-loop-name-preserved : goal.write_record-loop-name-preserved
write_record-loop-name-preserved t c =
    let names = known_names c.args.known.now in
    let namespace = plain_namespace c.args.namespace.now in
    let attribute = c.in-Some.attribute.now in
    let name = string_bytes c.in-Some.name.now in
    let required = (attribute_of attribute).0 in
    let ty = (attribute_of attribute).1 in
    let made = c.loop-name.attributes.entries in
    let same : ty_of c.deref.result.now ≡ ty = ap ty_of c.deref.ensures ∙ ap (λ (p : Bool × Ty). p.1) (sym
    (attribute_of-parts attribute)) in
    let flag = ap (λ (p : Bool × Ty). p.0) (attribute_of-parts attribute) in
    let steps = ap (λ entries. fields_from (plain_attributes entries)) c.in-Some.ensures.steps in
    let expr = raw_variant namespace c.in_ok-ty.ty in
    let (key, text, put) = c.in_ok-put_attribute.ensures in
    let behind = ap (plain_members namespace) put
    ∙ put-behind name key namespace made c.flag_and_expr-written.result (required, expr) text
    (c.flag_and_expr-written.ensures namespace ∙ (λ i. (sym flag i, expr)))
    (next_above names namespace (fields_of c.args.attrs.now) _ _ _ name required ty steps c.loop-name.invariant c.iter-name-items.ensures.sorted_by_name) in
    rw behind
    (attributes_more names namespace (fields_of c.args.attrs.now) _ _ _ name required ty steps c.loop-name.invariant expr
    (ap (type_written namespace) (sym same) ∙ c.in_ok-ty.ensures.written) (rw same at c.in_ok-ty.ensures.sound))

-- at the end the record type is written
pub write_record-returns-clause-written : goal.write_record-returns-clause-written
write_record-returns-clause-written t c =
    let names = known_names c.args.known.now in
    let namespace = plain_namespace c.args.namespace.now in
    ap (option_map (λ members. record_expr members false))
    (attributes_all names namespace (fields_of c.args.attrs.now) _ _
    (ap (λ entries. fields_from (plain_attributes entries)) c.in-None.ensures.steps.0) c.loop-name.invariant)
    ∙ ap Some (sym (variant-Record RawName (raw_reference namespace) _ ∙ record_type_expr-made RawName (raw_reference namespace) _))

-- and it is sound
pub write_record-returns-clause-sound : goal.write_record-returns-clause-sound
write_record-returns-clause-sound t c =
    attributes_sound (known_names c.args.known.now) (plain_namespace c.args.namespace.now) (fields_of c.args.attrs.now) _ _
    (ap (λ entries. fields_from (plain_attributes entries)) c.in-None.ensures.steps.0) c.loop-name.invariant

-- an extension type is written by its name
pub to_json_type-returns-in-ExtensionType-clause-written : goal.to_json_type-returns-in-ExtensionType-clause-written
to_json_type-returns-in-ExtensionType-clause-written t c =
    let namespace = plain_namespace c.args.namespace.now in
    let is : ty_of c.args.ty.now ≡ extension_of (plain_name c.in-ExtensionType.name) =
    ap ty_of c.in-ExtensionType.is ∙ ty_of-extension c.in-ExtensionType.name in
    ok_to _ _ (λ variant written. cc (is, written namespace)) c.write_extension.result c.write_extension.ensures.written

-- what is written of it is sound
pub to_json_type-returns-in-ExtensionType-clause-sound : goal.to_json_type-returns-in-ExtensionType-clause-sound
to_json_type-returns-in-ExtensionType-clause-sound t c =
    let names = known_names c.args.known.now in
    let namespace = plain_namespace c.args.namespace.now in
    let name = plain_name c.in-ExtensionType.name in
    let is : ty_of c.args.ty.now ≡ extension_of name = ap ty_of c.in-ExtensionType.is ∙ ty_of-extension c.in-ExtensionType.name in
    ok_on _ _ (λ variant written. rw is (sound-extension names namespace name _ (written namespace)))
    c.write_extension.result c.write_extension.ensures.written

-- a name that cannot be written is not sound
pub to_json_type-returns-in-ExtensionType-clause-refusal : goal.to_json_type-returns-in-ExtensionType-clause-refusal
to_json_type-returns-in-ExtensionType-clause-refusal t c =
    let names = known_names c.args.known.now in
    let namespace = plain_namespace c.args.namespace.now in
    let name = plain_name c.in-ExtensionType.name in
    let is : ty_of c.args.ty.now ≡ extension_of name = ap ty_of c.in-ExtensionType.is ∙ ty_of-extension c.in-ExtensionType.name in
    refusal_weaker _ _ (λ none. unsound-none names namespace (ty_of c.args.ty.now) (ap (type_written namespace) is ∙ none namespace))
    c.write_extension.result c.write_extension.ensures.refusal
